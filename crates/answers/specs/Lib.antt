pub mod Answers
pub mod Said
