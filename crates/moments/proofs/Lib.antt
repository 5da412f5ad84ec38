pub mod Rooms
pub mod Passed
