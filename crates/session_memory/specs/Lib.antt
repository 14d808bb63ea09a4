pub mod Suspended
pub mod Ending
pub mod Gathering
pub mod Refusals
pub mod Refused
pub mod Unique
