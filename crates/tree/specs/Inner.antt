pub mod Says
pub mod Spans
