pub mod Paths
pub mod Lists
pub mod Reach
pub mod Least
pub mod Ranking
pub mod Listing
pub mod Sequence
pub mod Alike
