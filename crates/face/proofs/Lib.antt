pub mod Worked
pub mod Faces
pub mod Ranges
pub mod Kept
