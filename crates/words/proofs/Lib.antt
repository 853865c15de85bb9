pub mod Splits
pub mod Decimal
pub mod ByRow
pub mod Ranges
pub mod Epochs
pub mod Places
