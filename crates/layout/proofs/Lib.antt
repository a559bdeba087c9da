pub mod AnswerLaws
pub mod Opcodes
pub mod Rows
pub mod Sizes
