use Prim.Native.Nat.{◌≤◌}
use mathlib.Core.Path.{◌≡◌}
use native.Mathlib.Omega.{arith}
use lib.ListN.{length}
use borrow.Author.Tests.{leb-true}
use Rattle.state.proofs.Answers.{check-passes, check-rejects, check-keeps}
use Rattle.state.proofs.Passing.{valid}
use Rattle.ets.proofs.CalendarLaws.{unchanged}
use Rattle.state.proofs.Tests.{then-zero, unless-zero}
use Rattle.forecasts.specs.Forecasts.{forecasts_code_to, forecasts_to, forecast_cells_to}
use Rattle.forecasts.proofs.ForecastLaws.{Ready, forecast-ready}
use Rattle.forecasts.proofs.CalendarLaws.{list-unchanged}
use Rattle.forecasting.proofs.forecasts_to.Goals as goal
use Rattle.forecasting.proofs.forecasts_to.Goals.{In_ok-check_forecasts_to}

accepted : (c : In_ok-check_forecasts_to) → forecasts_code_to c.args.limit c.args.s c.args.h (length c.args.values.now) ≡ 0
unfolding forecasts_code_to
accepted c = check-passes _ c.in_ok-check_forecasts_to.ensures

ready : (c : In_ok-check_forecasts_to) → Ready c.args.limit c.args.s c.args.h × (c.args.h ≤ length c.args.values.now)
unfolding forecasts_code_to
ready c =
    let z = then-zero _ _ (accepted c) in
    (forecast-ready _ _ _ z.0, leb-true _ _ (unless-zero _ 11 z.1))

pub returns-in_err-check_forecasts_to : goal.returns-in_err-check_forecasts_to
unfolding forecasts_code_to forecasts_to forecast_cells_to
returns-in_err-check_forecasts_to c =
    let e = c.in_err-check_forecasts_to.ensures in
    record { answer = check-rejects _ tt e c.from_residual.ensures.1; buffer = check-keeps _ _ _ e }

pub invariant_of-r : goal.invariant_of-r
invariant_of-r c =
    let q = (ready (goal.at.invariant_of-r c).In_ok-check_forecasts_to).0 in
    record { passes = q.valid; above = q.least; below = omega (arith, q.most, c.requires) }

pub fill-requires : goal.fill-requires
fill-requires c = (unchanged c.args.s.period, (ready (goal.at.fill-requires c).In_ok-check_forecasts_to).1)

pub returns : goal.returns
unfolding forecasts_to forecast_cells_to
returns c =
    let q = (goal.at.returns c).In_ok-check_forecasts_to in
    let z = accepted q in
    record { answer = rw z; buffer = rw (z, ← (list-unchanged c.args.s (valid _ (ready q).0.valid) c.args.h)) c.fill.ensures }
