pub mod Face
pub mod Entry
pub mod Range
pub mod Worked
