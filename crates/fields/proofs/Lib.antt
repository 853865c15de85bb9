pub mod Tenths
pub mod Widths
pub mod Pairs
pub mod Behind
