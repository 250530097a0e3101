pub mod Facts
pub mod Lent
pub mod LentLaws
pub mod Stores
