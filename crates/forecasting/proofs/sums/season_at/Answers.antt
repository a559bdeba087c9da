use Prim.Native.Nat.{◌+◌, ◌-◌, ◌%◌, ◌<◌, ℕ}
use mathlib.Core.Path.{◌≡◌, sym, ◌∙◌}
use mathlib.Core.Bool.{true, false}
use native.Mathlib.Nat.{mod-lt}
use native.Mathlib.Omega.{arith}
use lib.IntN.{pos}
use lib.ListN.{get_or}
use mir.Syntax.{w64}
use mir.Val.{to_z, of_z}
use Rattle.integers.proofs.Bounds.{within-zero, within-back}
use Rattle.models.specs.Models.{has_season}
use Rattle.state.specs.declared.State.{State}
use Rattle.state.specs.States.{check}
use Rattle.state.proofs.Passing.{bounded, with_season}
use Rattle.forecasts.specs.Forecasts.{season_at}
use Rattle.forecasting.proofs.sums.season_at.Goals as goal

-- the index is one of the season's, so one of the array's
index_in : (s : State) → check s ≡ 0 → has_season s.model ≡ true → (h : ℕ) → (s.index + h - 1) % s.period < 48
index_in s ok t h =
    let q = with_season s ok t in
    omega (arith, mod-lt (s.index + h - 1) {m = s.period} (omega (arith, q)), (bounded s ok).period)

pub returns-then-not-has_season : goal.returns-then-not-has_season
unfolding season_at
returns-then-not-has_season c =
    let e : has_season c.args.r.state.now.model ≡ false = sym c.has_season.ensures ∙ c.if-not-has_season.true in
    record { value = rw e; bound = within-zero 1099511627776 }

pub nonzero_rem-k : goal.nonzero_rem-k
nonzero_rem-k c = let q = with_season c.args.r.state.now c.args.r.passes (sym c.has_season.ensures ∙ c.if-not-has_season.false) in omega (arith, q)

pub bounds-s-k : goal.bounds-s-k
bounds-s-k c = index_in c.args.r.state.now c.args.r.passes (sym c.has_season.ensures ∙ c.if-not-has_season.false) c.args.r.horizon

pub returns : goal.returns
unfolding season_at
returns c =
    let e : has_season c.args.r.state.now.model ≡ true = sym c.has_season.ensures ∙ c.if-not-has_season.false in
    let w = (bounded c.args.r.state.now c.args.r.passes).cells _ (index_in c.args.r.state.now c.args.r.passes e c.args.r.horizon) in
    let b : to_z w64 (of_z w64 (get_or c.args.r.state.now.seasonal ((c.args.r.state.now.index + c.args.r.horizon - 1) % c.args.r.state.now.period) (pos 0))) ≡ get_or c.args.r.state.now.seasonal ((c.args.r.state.now.index + c.args.r.horizon - 1) % c.args.r.state.now.period) (pos 0) = within-back w64 w (omega arith) in
    record { value = rw (b, e); bound = rw b w }
