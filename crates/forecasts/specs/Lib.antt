pub mod Forecasts
pub mod Calendars
pub mod Promises
pub mod Pins
