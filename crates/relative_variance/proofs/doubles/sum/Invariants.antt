-- The loop's invariant: s is S up to j.
use Rattle.std.proofs.Common.{◌≡◌, suc}
use Rattle.relative_errors.specs.Relative.{sum_to}
use Rattle.relative_errors.specs.Facts.{squares_in}
use Rattle.relative_variance.proofs.doubles.sum.Given as goal

abbrev pub invariant-loop-j : goal.invariant-loop-j
invariant-loop-j l = l.s ≡ sum_to (squares_in l.c2) l.own (suc l.i) l.j
