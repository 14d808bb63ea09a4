pub mod Arriving
pub mod Bytes
pub mod Deciding
pub mod Finishing
pub mod Meaning
pub mod Refusing
pub mod Unique
pub mod Walking
