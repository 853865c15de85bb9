pub mod Said
pub mod Counts
pub mod Constants
