pub mod Slices
pub mod Works
pub mod Calendars
pub mod Results
pub mod Lists
pub mod Scores
pub mod Operations
