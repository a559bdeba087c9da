pub mod Calendars
pub mod Turns
pub mod Cursors
pub mod Walks
