pub mod ForecastLaws
pub mod CalendarLaws
pub mod MissingLaws
pub mod DisplayLaws
pub mod Computed
pub mod Codes
