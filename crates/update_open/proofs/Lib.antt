pub mod Answers
pub mod Shifting
pub mod One
