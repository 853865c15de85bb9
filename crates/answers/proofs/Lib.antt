pub mod Refusals
pub mod Handed
pub mod Entries
