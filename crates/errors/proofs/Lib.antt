pub mod One
pub mod Told
pub mod Outcomes
