pub mod Carried
pub mod Wired
pub mod Wires
