pub mod ErrorKinds
pub mod Facts
pub mod Pins
pub mod Promises
pub mod Relative
