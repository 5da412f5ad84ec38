pub mod Exposes
pub mod Cuttable
