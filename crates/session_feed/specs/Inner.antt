pub mod Faring
pub mod Kept
