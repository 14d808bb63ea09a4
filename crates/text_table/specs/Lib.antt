pub mod Text
pub mod Read
pub mod Reading
pub mod Calls
pub mod Refused
pub mod Unique
pub mod Laws
pub mod Inner
