pub mod Tests
pub mod Answers
pub mod Rounding
pub mod Passing
pub mod Regions
pub mod Switches
pub mod Computed
