pub mod Bounds
pub mod Below
pub mod Totals
