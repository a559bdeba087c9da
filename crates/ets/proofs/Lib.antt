pub mod StepLaws
pub mod UpdateLaws
pub mod ScoreLaws
pub mod Kept
pub mod CalendarLaws
pub mod BatchLaws
pub mod MissingLaws
pub mod Computed
