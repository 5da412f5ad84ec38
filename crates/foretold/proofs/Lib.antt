pub mod Ends
pub mod Drifts
pub mod Lands
