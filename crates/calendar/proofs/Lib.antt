pub mod Table
pub mod Leap
pub mod Years
pub mod Months
pub mod Walk
pub mod Cycle
