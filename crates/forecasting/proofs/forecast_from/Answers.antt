use Prim.Native.Nat.{ℕ, ◌≤◌}
use mathlib.Core.Path.{◌≡◌}
use mathlib.Core.Bool.{◌&&◌}
use native.Mathlib.Omega.{arith}
use lib.Dec.{leb}
use lib.IntN.{ℤ, ◌+ℤ◌}
use mir.Syntax.{w64}
use mir.Val.{SFits, to_z, of_z}
use mir.Facts.{to_z-of_z}
use borrow.Author.Tests.{leb-true}
use Rattle.integers.specs.Bounds.{Within}
use Rattle.integers.proofs.Difference.{back}
use Rattle.integers.proofs.Bounds.{within-add, within-fits}
use Rattle.state.specs.Fixed.{in_range}
use Rattle.integers.proofs.Tests.{both}
use Rattle.state.proofs.Answers.{check-passes, check-rejects}
use Rattle.state.proofs.Tests.{unless-zero, unless-then}
use Rattle.state.proofs.Passing.{in-range}
use Rattle.forecasts.specs.Forecasts.{forecast_from_code, forecast_from}
use Rattle.forecasting.proofs.forecast_from.Goals as goal
use Rattle.forecasting.proofs.forecast_from.Goals.{In_ok-check_from, After-trend_line}

accepted : (c : In_ok-check_from) → forecast_from_code c.args.level c.args.phi c.args.trend c.args.season c.args.h ≡ 0
accepted c = check-passes _ (rw (to_z-of_z c.ranges.level, to_z-of_z c.ranges.trend, to_z-of_z c.ranges.season) at c.in_ok-check_from.ensures)

-- what the tests let pass
record Ready (l : ℤ) (F : ℕ) (b v : ℤ) (h : ℕ) : Type 0 where
  phi : F ≤ 65536
  level : Within 1099511627776 l
  trend : Within 1099511627776 b
  season : Within 1099511627776 v
  horizon : h ≤ 512

ready : (level : ℤ) (phi : ℕ) (trend season : ℤ) (h : ℕ) → forecast_from_code level phi trend season h ≡ 0 → Ready level phi trend season h
ready level phi trend season h e =
    let z = unless-then (leb phi 65536) 6 _ e in
    let y = unless-then (in_range level && in_range trend && in_range season) 8 _ z.1 in
    let v = both (in_range level && in_range trend) (in_range season) y.0 in
    let u = both (in_range level) (in_range trend) v.0 in
    record {
      phi = leb-true phi 65536 z.0;
      level = in-range level u.0;
      trend = in-range trend u.1;
      season = in-range season v.1;
      horizon = leb-true h 512 (both (leb 1 h) (leb h 512) (unless-zero _ 10 y.1)).1;
    }

ready_at : (c : In_ok-check_from) → Ready c.args.level c.args.phi c.args.trend c.args.season c.args.h
ready_at c = ready c.args.level c.args.phi c.args.trend c.args.season c.args.h (accepted c)

sum_fits : (c : After-trend_line) → SFits w64 (c.trend_line.result +ℤ c.args.season)
sum_fits c = within-fits w64 (within-add c.trend_line.ensures.bound (ready_at c.before).season) (omega arith)

pub returns-in_err-check_from : goal.returns-in_err-check_from
unfolding forecast_from
returns-in_err-check_from c =
    let e = rw (to_z-of_z c.ranges.level, to_z-of_z c.ranges.trend, to_z-of_z c.ranges.season) at c.in_err-check_from.ensures in
    check-rejects _ _ e c.from_residual.ensures.1

pub trend_line-requires : goal.trend_line-requires
trend_line-requires c =
    let r = ready_at (goal.at.trend_line-requires c).In_ok-check_from in
    rw (to_z-of_z c.ranges.level, to_z-of_z c.ranges.trend) (r.phi, r.level, r.trend, r.horizon)

pub overflow_add-result : goal.overflow_add-result
overflow_add-result c =
    rw (back w64 c.trend_line.result c.trend_line.type_inv, to_z-of_z c.ranges.season) (sum_fits (goal.at.overflow_add-result c).After-trend_line)

pub returns : goal.returns
unfolding forecast_from
returns c =
    let f = sum_fits (goal.at.returns c).After-trend_line in
    let m : to_z w64 (of_z w64 (to_z w64 (of_z w64 c.trend_line.result) +ℤ to_z w64 (of_z w64 c.args.season))) ≡ c.trend_line.result +ℤ c.args.season = rw (back w64 c.trend_line.result c.trend_line.type_inv, to_z-of_z c.ranges.season) (to_z-of_z f) in
    rw (accepted (goal.at.returns c).In_ok-check_from, m, c.trend_line.ensures.value, to_z-of_z c.ranges.level, to_z-of_z c.ranges.trend)
