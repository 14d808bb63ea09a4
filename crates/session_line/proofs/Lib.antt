pub mod Heard
pub mod Dumps
pub mod Cases
