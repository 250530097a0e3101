pub mod Flips
pub mod Grids
pub mod Onto
pub mod Tallies
