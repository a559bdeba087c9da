use Prim.Native.Nat.{ℕ, suc, ◌+◌}
use mathlib.Core.Path.{◌≡◌, refl, ap, ◌∙◌}
use mathlib.Core.List.{List}
use native.Mathlib.Numerals.{add-one}
use native.Mathlib.Omega.{arith}
use lib.ListN.{set, length-set}
use Rattle.state.proofs.Passing.{bounded}
use Rattle.weights.specs.Weights.{coefficient}
use Rattle.weights.specs.Coefficients.{coefficient_list}
use Rattle.weights.specs.Facts.{At}
use Rattle.weights.proofs.Terms.{at-start, at_next}
use Rattle.weights.proofs.CoefficientLaws.{coefficients-more}
use Rattle.weighting.proofs.coefficients.fill.Goals as goal
use Rattle.weighting.proofs.coefficients.fill.Goals.{After-next_remainder-k}

at-next-j : (c : After-next_remainder-k) → At c.args.r.state.now c.ties_to_even-even.result c.trend_of-trend.result (c.loop-j.j + 1) c.next_damping-p.result c.next_remainder-k.result
at-next-j c =
    at_next c.args.r.state.now c.loop-j.j (omega arith) (omega (arith, c.args.r.below, c.loop-j-test.true)) c.loop-j.invariant.0 (c.next_damping-p.ensures.value, c.next_damping-p.ensures.bound) (rw c.group_count-m.ensures at c.next_remainder-k.ensures)

pub loop-j-init : goal.loop-j-init
unfolding coefficient_list
loop-j-init c = (at-start c.args.r.state.now c.ties_to_even-even.ensures c.trend_of-trend.ensures, refl, refl)

pub next_damping-p-requires : goal.next_damping-p-requires
next_damping-p-requires c =
    ((bounded c.args.r.state.now c.args.r.passes).phi, omega (arith, c.loop-j.invariant.0.small, c.loop-j.invariant.0.most))

pub coefficient-c-requires : goal.coefficient-c-requires
coefficient-c-requires c = at-next-j c

pub loop-j-preserved : goal.loop-j-preserved
loop-j-preserved c =
    let s = c.args.r.state.now in
    let j = c.loop-j.j in (
      at-next-j (goal.at.loop-j-preserved c).After-next_remainder-k,
      simp length-set c.loop-j.invariant.1,
      rw (c.coefficient-c.ensures.value, add-one j)
          (ap (λ (l : List ℕ). set l j (coefficient s (suc j))) c.loop-j.invariant.2 ∙ coefficients-more s j c.args.cells.now (omega (arith, c.requires, c.loop-j-test.true))),
    )

pub returns : goal.returns
returns c =
    let e : c.loop-j.j ≡ c.args.r.horizon = omega arith in
    rw e at c.loop-j.invariant.2
