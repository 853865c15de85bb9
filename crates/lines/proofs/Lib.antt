pub mod Cuts
pub mod Moves
pub mod Turns
pub mod Pieces
