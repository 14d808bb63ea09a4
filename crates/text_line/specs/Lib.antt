pub mod Hex
pub mod Text
pub mod Laws
pub mod Exactly
