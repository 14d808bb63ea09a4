pub mod Slots
pub mod Answers
pub mod Unique
