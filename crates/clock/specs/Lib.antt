pub mod Windows
pub mod Cases
pub mod Promises
pub mod Pins
