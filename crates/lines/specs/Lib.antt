pub mod Lines
pub mod FirstLine
