pub mod SliceLaws
pub mod Codes
