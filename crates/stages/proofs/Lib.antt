pub mod Stages
pub mod YearLimit
pub mod Shape
