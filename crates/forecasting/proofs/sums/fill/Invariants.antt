-- d, line and p are those of i steps on, and the first i elements are the forecasts.
use mathlib.Core.Path.{◌≡◌}
use mathlib.Core.List.{◌++◌}
use lib.ListN.{length, drop}
use Rattle.models.specs.Models.{ties_to_even}
use Rattle.calendars.specs.Calendars.{calendar_of}
use Rattle.forecasts.specs.Forecasts.{trend_at, trend_line}
use Rattle.forecasts.specs.Calendars.{forecast_list_by}
use Rattle.forecasts.proofs.CalendarLaws.{Walking}
use Rattle.forecasting.proofs.sums.fill.Given as goal

abbrev pub invariant-loop-i : goal.invariant-loop-i
invariant-loop-i l =
    (l.d ≡ trend_at (ties_to_even l.r.state.now.model) l.r.state.now.phi l.r.state.now.trend l.i)
    × (l.line ≡ trend_line (ties_to_even l.r.state.now.model) l.r.state.now.level l.r.state.now.phi l.r.state.now.trend l.i)
    × Walking (calendar_of l.skipped l.repeated) l.r.state.now l.i l.p l.n l.at
    × (length l.values ≡ length l.initial.values)
    × (l.values ≡ forecast_list_by (calendar_of l.skipped l.repeated) l.r.state.now l.i ++ drop l.i l.initial.values)
    × (l.even ≡ ties_to_even l.r.state.now.model)
