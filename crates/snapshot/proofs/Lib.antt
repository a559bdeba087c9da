pub mod Accepting
pub mod ByteLaws
pub mod Decoded
pub mod OffsetLaws
pub mod OldForms
pub mod Stops
