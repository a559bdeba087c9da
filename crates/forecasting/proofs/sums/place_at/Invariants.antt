-- The walk of so many steps as counted, and the place that the last of them used.
use mathlib.Core.Path.{◌≡◌}
use Rattle.calendars.specs.Calendars.{calendar_of}
use Rattle.forecasts.specs.Calendars.{place_by}
use Rattle.forecasts.proofs.CalendarLaws.{Walking}
use Rattle.forecasting.proofs.sums.place_at.Given as goal

abbrev pub invariant-loop : goal.invariant-loop
invariant-loop l = Walking (calendar_of l.skipped l.repeated) l.r.state.now l.counter l.p l.n l.at × (l.used ≡ place_by (calendar_of l.skipped l.repeated) l.r.state.now l.counter)
