pub mod Placing
pub mod Making
pub mod Continuing
