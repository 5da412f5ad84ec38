pub mod Numbers
pub mod Items
