pub mod Steps
pub mod Batches
pub mod Calendars
pub mod Updates
pub mod Bounds
pub mod Promises
pub mod Pins
