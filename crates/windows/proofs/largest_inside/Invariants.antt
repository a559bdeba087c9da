-- The walk of so many steps, and the largest of what is inside among them.
use Rattle.std.proofs.Common.{◌≡◌}
use Rattle.calendars.specs.Calendars.{calendar_of}
use Rattle.forecasts.proofs.CalendarLaws.{Walking}
use Rattle.clock.specs.Windows.{inside_to}
use Rattle.clock.proofs.WindowLaws.{largest_in}
use Rattle.windows.proofs.largest_inside.Given as goal

abbrev pub invariant-loop-v : goal.invariant-loop-v
invariant-loop-v l =
    Walking (calendar_of l.skipped l.repeated) l.day.state.now l.v-index l.p l.n l.at
    × (l.best ≡ largest_in (inside_to (calendar_of l.skipped l.repeated) l.day.state.now l.first l.end l.v-index))
