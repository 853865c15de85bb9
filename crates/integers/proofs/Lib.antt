pub mod Signed
pub mod Machine
pub mod Sums
pub mod Floor
pub mod Wrapped
