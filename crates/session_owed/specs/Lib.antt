pub mod Owed
pub mod Hearing
pub mod Laws
