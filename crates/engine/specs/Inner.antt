pub mod Prepared
pub mod Arrays
