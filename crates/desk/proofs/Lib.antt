pub mod Answered
mod Table
mod Prints
mod Entries
