pub mod Values
pub mod Rows
pub mod Window
pub mod Out
pub mod Fields
pub mod Exactly
