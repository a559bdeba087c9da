-- P and the remainder of j − 1, and the weight of j.
use Prim.Native.Nat.{◌+◌, ◌-◌, ◌*◌, ◌≤◌}
use mathlib.Core.Path.{◌≡◌}
use Rattle.weights.specs.Weights.{weight_of}
use Rattle.weights.specs.Facts.{At}
use Rattle.weighting.proofs.sums.weight_of.Given as goal

abbrev pub invariant-loop-j : goal.invariant-loop-j
invariant-loop-j l =
    At l.r.state.now l.even l.trend (l.j - 1) l.p l.k
    × (l.sum ≤ 4294967296 + 1134713179734016 * l.j)
    × (l.sum ≡ weight_of l.r.state.now l.j)
