pub mod InPlace
pub mod Facts
pub mod Promises
