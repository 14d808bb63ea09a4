pub mod Feeding
pub mod Laws
pub mod Refused
pub mod Running
pub mod Unique
pub mod Inner
