pub mod Bytes
pub mod Words
pub mod Numbers
pub mod Tables
pub mod Kinds
pub mod Rows
pub mod Places
