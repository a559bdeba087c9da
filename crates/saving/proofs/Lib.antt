pub mod ByteLaws
pub mod Lengths
