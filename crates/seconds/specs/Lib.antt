pub mod Said
pub mod Counts
