pub mod Units
pub mod Counts
pub mod Laid
pub mod Figures
