pub mod Ranges
pub mod Sets
