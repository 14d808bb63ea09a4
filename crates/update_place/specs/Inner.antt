pub mod Cleared
pub mod Pieces
pub mod Splicing
