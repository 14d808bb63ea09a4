pub mod Search
pub mod Labels
