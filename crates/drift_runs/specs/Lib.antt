pub mod ClockRuns
