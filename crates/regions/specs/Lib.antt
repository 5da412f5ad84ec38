pub mod Regions
pub mod Stray
