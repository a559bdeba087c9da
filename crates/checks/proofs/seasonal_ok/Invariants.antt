-- The loop's invariant: the cells passed are what `all_below` says of them.
use Prim.Native.Nat.{ℕ, ◌≤◌, ◌-◌}
use mathlib.Core.Path.{◌≡◌}
use lib.ListN.{get_or}
use lib.IntN.{pos}
use Rattle.integers.specs.Below.{all_below}
use Rattle.state.specs.States.{cell_ok}
use Rattle.checks.proofs.seasonal_ok.Given as goal

abbrev pub invariant-loop-k : goal.invariant-loop-k
invariant-loop-k l = (l.k ≤ 48) × (l.ok ≡ all_below l.k (λ (j : ℕ). cell_ok l.m j (get_or l.cells j (pos 0))))

abbrev pub decreases-loop-k : goal.decreases-loop-k
decreases-loop-k l = 48 - l.k
