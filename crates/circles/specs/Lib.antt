pub mod Marks
pub mod Graph
pub mod Ranked
pub mod Arrays
pub mod Example
pub mod Laws
