-- The loop's invariant: what is left of the lists decides as the lists do.
use Rattle.std.proofs.Common.{◌≡◌, ◌+◌, length}
use Rattle.calendars.specs.Calendars.{lists_ok}
use Rattle.calendars.proofs.lists_ok.Given as goal

abbrev pub invariant-loop-first : goal.invariant-loop-first
invariant-loop-first l = lists_ok l.first l.second ≡ lists_ok l.xs l.ys

abbrev pub decreases-loop-first : goal.decreases-loop-first
decreases-loop-first l = length l.first + length l.second
