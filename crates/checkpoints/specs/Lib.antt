pub mod Checkpoints
pub mod Promises
