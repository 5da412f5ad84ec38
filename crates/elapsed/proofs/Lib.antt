pub mod Passable
