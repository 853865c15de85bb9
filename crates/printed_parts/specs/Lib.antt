pub mod Text
pub mod Bounded
pub mod Parts
