pub mod Points
pub mod Looking
pub mod Rounding
pub mod Counting
