pub mod Laws
pub mod Meter
