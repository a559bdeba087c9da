pub mod CoefficientLaws
pub mod GroupLaws
pub mod Rejecting
pub mod Terms
pub mod Computed
pub mod Codes
