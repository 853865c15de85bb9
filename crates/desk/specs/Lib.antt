pub mod Verbs
pub mod Answers
