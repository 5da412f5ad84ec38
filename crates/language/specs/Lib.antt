pub mod Language
pub mod Orders
pub mod Worked
