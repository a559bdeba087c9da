pub mod Difference
pub mod Bounds
pub mod Tests
pub mod Signed
pub mod Snoc
