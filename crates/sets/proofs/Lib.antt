pub mod Order
pub mod Growth
pub mod Gain
