pub mod Orders
pub mod Tests
pub mod Parts
pub mod Walks
pub mod Outlines
pub mod Rows
pub mod Last
pub mod Written
