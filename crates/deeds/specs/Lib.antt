pub mod Events
pub mod Deeds
pub mod Tells
pub mod Answers
pub mod Worked
pub mod Script
