pub mod Bits
pub mod GridLaws
pub mod Numbers
