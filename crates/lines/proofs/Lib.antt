pub mod DigitLaws
pub mod DecimalLaws
pub mod LineLaws
