pub mod Answering
pub mod Paying
pub mod Stepped
pub mod Turning
