pub mod Frames
pub mod Out
pub mod Text
pub mod Walk
pub mod Calls
pub mod Exactly
pub mod Laws
pub mod Unique
