pub mod Bounds
pub mod Finite
pub mod Exact
pub mod Floats
pub mod ErrorKinds
pub mod Recursion
