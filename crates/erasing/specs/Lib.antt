pub mod Hand
pub mod Kinds
