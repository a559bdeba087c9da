pub mod Answers
pub mod Bytes
pub mod CommandTable
pub mod Layout
pub mod Promises
