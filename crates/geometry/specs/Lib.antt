pub mod Parts
pub mod Asked
pub mod Rules
pub mod Paper
pub mod Runs
