-- P and the remainder of j, and the coefficients for 1 to j.
use mathlib.Core.Path.{◌≡◌}
use mathlib.Core.List.{◌++◌}
use lib.ListN.{length, drop}
use Rattle.weights.specs.Coefficients.{coefficient_list}
use Rattle.weights.specs.Facts.{At}
use Rattle.weighting.proofs.coefficients.fill.Given as goal

abbrev pub invariant-loop-j : goal.invariant-loop-j
invariant-loop-j l =
    At l.r.state.now l.even l.trend l.j l.p l.k
    × (length l.cells ≡ length l.initial.cells)
    × (l.cells ≡ coefficient_list l.r.state.now l.j ++ drop l.j l.initial.cells)
