pub mod Local
pub mod Parts
