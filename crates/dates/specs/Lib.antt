pub mod Said
pub mod Dates
