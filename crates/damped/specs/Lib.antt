pub mod Limits
pub mod Pins
