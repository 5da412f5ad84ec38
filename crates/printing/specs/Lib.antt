pub mod Text
pub mod Put
pub mod Worked
pub mod Page
