pub mod Words
pub mod Cursors
pub mod Taking
pub mod Laying
pub mod Going
