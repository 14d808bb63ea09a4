pub mod Pastes
pub mod Placed
pub mod Slots
pub mod Laying
pub mod Spliced
pub mod Arranged
pub mod Rows
pub mod Fields
