pub mod Exact
pub mod Limits
pub mod Components
pub mod ForecastErrors
pub mod Pins
pub mod ClockPins
pub mod CheckpointPins
