pub mod Members
pub mod Operations
pub mod Arguments
pub mod Laws
