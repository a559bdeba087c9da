use Prim.Native.Nat.{ℕ, suc, ◌+◌, ◌-◌, ◌*◌, ◌%◌, ◌≤◌, ◌<◌}
use mathlib.Core.Path.{◌≡◌, refl, ap}
use native.Mathlib.Nat.{mod-lt}
use native.Mathlib.Omega.{arith}
use lib.ListN.{length, get_or, length-set}
use Rattle.state.proofs.Passing.{bounded, valid}
use Rattle.state.specs.declared.State.{State}
use Rattle.weights.specs.Weights.{coefficient, squares}
use Rattle.weights.specs.Groups.{group_count}
use Rattle.weights.specs.Facts.{At}
use Rattle.weights.proofs.Terms.{product_le, at-start, at_next, squares-next}
use Rattle.weights.proofs.GroupLaws.{count-least, cell-most, cells-next, Cleared, cleared}
use Rattle.weighting.proofs.groups.add_squares.Goals as goal
use Rattle.weighting.proofs.groups.add_squares.Goals.{After-clear, In-loop-j, After-next_remainder-k, After-coefficient-c}

cleared_at : (c : After-clear) → Cleared c.args.r.state.now c.args.cells.now c.clear.new.cells
cleared_at c =
    cleared c.args.r.state.now c.group_count-m.ensures (rw c.group_count-m.ensures c.requires) c.clear.ensures

one_more : (c : In-loop-j) → suc (c.loop-j.j - 1) ≡ c.loop-j.j
one_more c = omega (arith, c.loop-j.auto.j)

at_j : (c : After-next_remainder-k) → At c.args.r.state.now c.ties_to_even-even.result c.trend_of-trend.result c.loop-j.j c.next_damping-p.result c.next_remainder-k.result
at_j c =
    let n = one_more (goal.at.coefficient-c-requires c).In-loop-j in
    at_next c.args.r.state.now (c.loop-j.j - 1) n (omega (arith, c.args.r.below, c.loop-j-test.true)) c.loop-j.invariant.0 (c.next_damping-p.ensures.value, c.next_damping-p.ensures.bound) (rw c.group_count-m.ensures at c.next_remainder-k.ensures)

-- the square that a turn adds, and the cell that it adds to
module _ (c : After-coefficient-c) where
  abbrev s : State
  s = c.args.r.state.now

  abbrev j : ℕ
  j = c.loop-j.j

  abbrev k : ℕ
  k = c.next_remainder-k.result

  abbrev square : ℕ
  square = c.coefficient-c.result * c.coefficient-c.result

  square-small : square ≤ 1134713179734016
  square-small = product_le 33685504 33685504 c.coefficient-c.ensures.bound c.coefficient-c.ensures.bound

  square-is : square ≡ coefficient s j * coefficient s j
  square-is = ap (λ (x : ℕ). x * x) c.coefficient-c.ensures.value

  k-is : k ≡ j % group_count s
  k-is = (at_j c.before).remainder

  k-in : k < group_count s
  k-in = omega (arith, k-is, mod-lt j {m = group_count s} (count-least s (valid s c.args.r.passes)))

  inside : k < length c.loop-j.cells
  inside = omega (arith, k-in, c.loop-j.invariant.2, (cleared_at (goal.at.coefficient-c-requires c.before).After-clear).same, c.requires)

  sum-small : get_or c.loop-j.cells k 0 + square ≤ 1134713179734016 * (j + 1)
  sum-small = omega (arith, cell-most s (j - 1) _ c.loop-j.invariant.3 k-in, c.loop-j.invariant.1, square-small)

pub loop-j-init : goal.loop-j-init
unfolding squares
loop-j-init c =
    (at-start c.args.r.state.now c.ties_to_even-even.ensures c.trend_of-trend.ensures, omega arith, refl, (cleared_at (goal.at.loop-j-init c).After-clear).start)

pub next_damping-p-requires : goal.next_damping-p-requires
next_damping-p-requires c =
    ((bounded c.args.r.state.now c.args.r.passes).phi, omega (arith, c.loop-j.invariant.0.small, c.loop-j.invariant.0.most))

pub coefficient-c-requires : goal.coefficient-c-requires
coefficient-c-requires c = at_j c

pub bounds-cells-i : goal.bounds-cells-i
bounds-cells-i c = inside (goal.at.bounds-cells-i c).After-coefficient-c

pub overflow_add-cells : goal.overflow_add-cells
overflow_add-cells c = omega (arith, sum-small (goal.at.overflow_add-cells c).After-coefficient-c, c.args.r.below, c.loop-j-test.true)

pub bounds-cells-i-in-loop-j : goal.bounds-cells-i-in-loop-j
bounds-cells-i-in-loop-j c = inside (goal.at.bounds-cells-i-in-loop-j c).After-coefficient-c

pub loop-j-preserved : goal.loop-j-preserved
loop-j-preserved c =
    let at = goal.at.loop-j-preserved c in
    let q = at.After-coefficient-c in
    let s = c.args.r.state.now in
    let j = c.loop-j.j in
    let n = one_more at.In-loop-j in
    let now : j + 1 - 1 ≡ j = omega arith in (
      rw now (at_j at.After-next_remainder-k),
      rw now (omega (arith, squares-next s (j - 1) n, square-is q, square-small q, c.loop-j.invariant.1)),
      simp length-set c.loop-j.invariant.2,
      rw now (cells-next s (j - 1) _ c.loop-j.invariant.3 (k-in q) n (k-is q) (square-is q)),
    )

pub returns : goal.returns
returns c =
    let e : c.loop-j.j ≡ c.args.r.horizon = omega arith in
    rw (e, (cleared_at (goal.at.returns c).After-clear).rest) at c.loop-j.invariant.3
