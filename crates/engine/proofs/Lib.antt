pub mod Arrays
pub mod Answers
pub mod Alike
pub mod Listed
pub mod Preparing
pub mod Stepping
pub mod Unique
pub mod Views
