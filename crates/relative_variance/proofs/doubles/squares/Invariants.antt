-- The loop's invariant: the first i are the squares of c's first i.
use Rattle.std.proofs.Common.{◌≡◌, ◌++◌, length, drop}
use Rattle.relative_errors.specs.Facts.{square_list}
use Rattle.relative_variance.proofs.doubles.squares.Given as goal

abbrev pub invariant-loop-i : goal.invariant-loop-i
invariant-loop-i l = (length l.squared ≡ length l.initial.squared) × (l.squared ≡ square_list l.c l.i ++ drop l.i l.initial.squared)
