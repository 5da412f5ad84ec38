pub mod Counting
pub mod InHand
