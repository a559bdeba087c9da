use Prim.Native.Nat.{ℕ, suc, ◌+◌, ◌-◌, ◌*◌, ◌≤◌}
use mathlib.Core.Path.{◌≡◌, refl, ap}
use native.Mathlib.Omega.{arith}
use Rattle.state.proofs.Passing.{bounded}
use Rattle.weights.specs.Weights.{squares, weight_of}
use Rattle.weights.specs.Facts.{At}
use Rattle.weights.proofs.Terms.{product_le, at-start, at_next, weight-next}
use Rattle.weighting.proofs.sums.weight_of.Goals as goal
use Rattle.weighting.proofs.sums.weight_of.Goals.{In-loop-j, After-next_remainder-k}

one_more : (c : In-loop-j) → suc (c.loop-j.j - 1) ≡ c.loop-j.j
one_more c = omega (arith, c.loop-j.auto.j)

at_j : (c : After-next_remainder-k) → At c.args.r.state.now c.ties_to_even-even.result c.trend_of-trend.result c.loop-j.j c.next_damping-p.result c.next_remainder-k.result
at_j c =
    let n = one_more (goal.at.coefficient-c-requires c).In-loop-j in
    at_next c.args.r.state.now (c.loop-j.j - 1) n (omega (arith, c.args.r.below, c.loop-j-test.true)) c.loop-j.invariant.0 (c.next_damping-p.ensures.value, c.next_damping-p.ensures.bound) (rw c.group_count-m.ensures at c.next_remainder-k.ensures)

pub loop-j-init : goal.loop-j-init
unfolding squares weight_of
loop-j-init c =
    (at-start c.args.r.state.now c.ties_to_even-even.ensures c.trend_of-trend.ensures, omega arith, refl)

pub next_damping-p-requires : goal.next_damping-p-requires
next_damping-p-requires c =
    ((bounded c.args.r.state.now c.args.r.passes).phi, omega (arith, c.loop-j.invariant.0.small, c.loop-j.invariant.0.most))

pub coefficient-c-requires : goal.coefficient-c-requires
coefficient-c-requires c = at_j c

pub loop-j-preserved : goal.loop-j-preserved
loop-j-preserved c =
    let at = goal.at.loop-j-preserved c in
    let j = c.loop-j.j in
    let now : j + 1 - 1 ≡ j = omega arith in
    let small : c.coefficient-c.result * c.coefficient-c.result ≤ 1134713179734016 = product_le 33685504 33685504 c.coefficient-c.ensures.bound c.coefficient-c.ensures.bound in (
      rw now (at_j at.After-next_remainder-k),
      omega (arith, small, c.loop-j.invariant.1),
      omega (arith, c.loop-j.invariant.2, ap (λ (x : ℕ). x * x) c.coefficient-c.ensures.value, weight-next c.args.r.state.now (j - 1) (one_more at.In-loop-j)),
    )

pub returns : goal.returns
returns c =
    let e : c.loop-j.j ≡ c.args.r.horizon = omega arith in
    rw e at c.loop-j.invariant.2
