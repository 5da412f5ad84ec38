pub mod Rests
pub mod GivesCells
pub mod Disturbed
pub mod Lasts
