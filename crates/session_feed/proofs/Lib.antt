pub mod Answering
pub mod Beginning
pub mod Bounds
pub mod Cutting
pub mod Faring
pub mod Refusing
pub mod Unique
