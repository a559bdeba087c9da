pub mod Encoding
pub mod Saving
