pub mod Puts
pub mod Hexes
pub mod Wrotes
