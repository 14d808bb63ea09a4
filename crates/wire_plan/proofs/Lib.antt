pub mod Nines
pub mod Tests
