pub mod Cuts
pub mod Limits
