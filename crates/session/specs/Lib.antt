pub mod Naming
pub mod Session
pub mod Example
pub mod Script
pub mod Performing
pub mod Lines
pub mod Commands
