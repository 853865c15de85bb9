pub mod Said
pub mod Durations
