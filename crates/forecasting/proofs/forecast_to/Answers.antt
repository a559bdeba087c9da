use Prim.Native.Nat.{◌≤◌}
use mathlib.Core.Path.{◌≡◌}
use native.Mathlib.Omega.{arith}
use lib.IntN.{◌+ℤ◌}
use mir.Syntax.{w64}
use mir.Val.{SFits, to_z, of_z}
use mir.ValLaws.{to_z-of_z}
use Rattle.integers.proofs.Difference.{back}
use Rattle.integers.proofs.Bounds.{within-add, within-fits, within-back}
use Rattle.state.specs.Valid.{Valid}
use Rattle.state.proofs.Answers.{check-passes, check-rejects}
use Rattle.state.proofs.Passing.{valid}
use Rattle.forecasts.specs.Forecasts.{forecast_code_to, forecast_of, forecast_to}
use Rattle.forecasts.proofs.ForecastLaws.{Ready, forecast-ready}
use Rattle.forecasting.proofs.forecast_to.Goals as goal
use Rattle.forecasting.proofs.forecast_to.Goals.{In_ok-check_forecast_to, After-season_at}

accepted : (c : In_ok-check_forecast_to) → forecast_code_to c.args.limit c.args.s c.args.h ≡ 0
accepted c = check-passes _ c.in_ok-check_forecast_to.ensures

ready : (c : In_ok-check_forecast_to) → Ready c.args.limit c.args.s c.args.h
ready c = forecast-ready _ _ _ (accepted c)

facts : (c : In_ok-check_forecast_to) → Valid c.args.s
facts c = valid _ (ready c).valid

level_is : (c : In_ok-check_forecast_to) → to_z w64 (of_z w64 c.args.s.level) ≡ c.args.s.level
level_is c = within-back w64 (facts c).bounded.level (omega arith)

trend_is : (c : In_ok-check_forecast_to) → to_z w64 (of_z w64 c.args.s.trend) ≡ c.args.s.trend
trend_is c = within-back w64 (facts c).bounded.trend (omega arith)

sum_fits : (c : After-season_at) → SFits w64 (c.trend_line.result +ℤ c.season_at.result)
sum_fits c = within-fits w64 (within-add c.trend_line.ensures.bound c.season_at.ensures.bound) (omega arith)

pub returns-in_err-check_forecast_to : goal.returns-in_err-check_forecast_to
unfolding forecast_to
returns-in_err-check_forecast_to c =
    check-rejects _ (forecast_of c.args.s c.args.h) c.in_err-check_forecast_to.ensures c.from_residual.ensures.1

pub trend_line-requires : goal.trend_line-requires
trend_line-requires c =
    let q = (goal.at.trend_line-requires c).In_ok-check_forecast_to in
    let b = (facts q).bounded in
    let m : c.args.h ≤ 512 = omega (arith, (ready q).most, c.requires) in
    rw (level_is q, trend_is q) (b.phi, b.level, b.trend, m)

pub invariant_of-r : goal.invariant_of-r
invariant_of-r c =
    let q = ready (goal.at.invariant_of-r c).In_ok-check_forecast_to in
    record { passes = q.valid; above = q.least; below = omega (arith, q.most, c.requires) }

pub overflow_add-result : goal.overflow_add-result
overflow_add-result c =
    rw (back w64 c.trend_line.result c.trend_line.type_inv, back w64 c.season_at.result c.season_at.type_inv) (sum_fits (goal.at.overflow_add-result c).After-season_at)

pub returns : goal.returns
unfolding forecast_to forecast_of
returns c =
    let q = (goal.at.returns c).In_ok-check_forecast_to in
    let f = sum_fits (goal.at.returns c).After-season_at in
    let m : to_z w64 (of_z w64 (to_z w64 (of_z w64 c.trend_line.result) +ℤ to_z w64 (of_z w64 c.season_at.result))) ≡ c.trend_line.result +ℤ c.season_at.result = rw (back w64 c.trend_line.result c.trend_line.type_inv, back w64 c.season_at.result c.season_at.type_inv) (to_z-of_z w64 _ f) in
    rw (accepted q, m, c.trend_line.ensures.value, c.ties_to_even.ensures, level_is q, trend_is q, c.season_at.ensures.value)
