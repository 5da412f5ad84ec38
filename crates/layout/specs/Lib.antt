pub mod Places
pub mod Commands
pub mod Operations
pub mod Image
pub mod Carried
pub mod Promises
pub mod Stored
pub mod Worked
