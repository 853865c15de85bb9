pub mod Values
pub mod Refused
pub mod Readings
pub mod OurReadings
pub mod GivenWhen
pub mod DigitsOff
