-- The loop's invariant: from where the cursor stands, it ends where it does from the start.
use Rattle.std.proofs.Common.{◌≡◌}
use Rattle.calendars.specs.Cursors.{seek}
use Rattle.calendars.proofs.seek.Given as goal

abbrev pub invariant-loop-k : goal.invariant-loop-k
invariant-loop-k l = seek l.counts l.k l.n ≡ seek l.counts l.from l.n
