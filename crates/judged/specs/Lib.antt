pub mod Asked
pub mod Foreseen
