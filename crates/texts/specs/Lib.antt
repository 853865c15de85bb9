pub mod Texts
pub mod Hex
pub mod Wrote
