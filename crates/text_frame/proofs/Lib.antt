pub mod Printed
pub mod Seeking
pub mod Back
pub mod Forth
pub mod Bounds
pub mod Exactly
pub mod Unique
