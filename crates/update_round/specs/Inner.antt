pub mod Arranged
pub mod Tests
pub mod Says
pub mod Wires
