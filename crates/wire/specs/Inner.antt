pub mod ArrayLaws
pub mod Turns
