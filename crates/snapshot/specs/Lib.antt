pub mod Snapshots
pub mod Facts
pub mod Promises
