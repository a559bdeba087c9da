-- P and the remainder of j − 1, and the groups for 1 to j − 1.
use Prim.Native.Nat.{◌-◌, ◌*◌, ◌≤◌}
use mathlib.Core.Path.{◌≡◌}
use mathlib.Core.List.{◌++◌}
use lib.ListN.{length, drop}
use Rattle.weights.specs.Weights.{squares}
use Rattle.weights.specs.Groups.{group_count, first_groups}
use Rattle.weights.specs.Facts.{At}
use Rattle.weighting.proofs.groups.add_squares.Given as goal

abbrev pub invariant-loop-j : goal.invariant-loop-j
invariant-loop-j l =
    At l.r.state.now l.even l.trend (l.j - 1) l.p l.k
    × (squares l.r.state.now (l.j - 1) ≤ 1134713179734016 * l.j)
    × (length l.cells ≡ length l.initial.cells)
    × (l.cells ≡ first_groups l.r.state.now (l.j - 1) (group_count l.r.state.now) ++ drop (group_count l.r.state.now) l.initial.cells)
