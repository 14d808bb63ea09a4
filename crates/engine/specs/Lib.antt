pub mod Lent
pub mod Unique
pub mod Inner
