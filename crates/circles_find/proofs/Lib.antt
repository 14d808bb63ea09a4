pub mod Stamps
pub mod Front
pub mod Sweeps
pub mod Chains
pub mod Rolls
pub mod Rounds
pub mod Holding
pub mod Lowering
