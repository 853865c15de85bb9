pub mod Lengths
pub mod Year
pub mod Fraction
