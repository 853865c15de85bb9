pub mod Stores
pub mod Decimal
pub mod Width
pub mod Product
