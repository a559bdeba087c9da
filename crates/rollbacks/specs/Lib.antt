pub mod Rollbacks
pub mod Pins
