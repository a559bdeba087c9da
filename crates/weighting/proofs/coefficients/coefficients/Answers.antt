use Prim.Native.Nat.{◌≤◌}
use mathlib.Core.Path.{◌≡◌}
use lib.ListN.{length}
use borrow.Author.Tests.{leb-true}
use Rattle.state.proofs.Answers.{check-passes, check-rejects, check-keeps}
use Rattle.state.proofs.Tests.{then-zero, unless-zero}
use Rattle.forecasts.specs.Forecasts.{forecasts_code_to, forecasts_code}
use Rattle.forecasts.proofs.ForecastLaws.{Ready, forecast-ready}
use Rattle.weights.specs.Coefficients.{coefficients, coefficient_cells}
use Rattle.weighting.proofs.coefficients.coefficients.Goals as goal
use Rattle.weighting.proofs.coefficients.coefficients.Goals.{In_ok-check_forecasts_to}

accepted : (c : In_ok-check_forecasts_to) → forecasts_code c.args.s c.args.h (length c.args.cells.now) ≡ 0
unfolding forecasts_code_to
accepted c = check-passes _ c.in_ok-check_forecasts_to.ensures

ready : (c : In_ok-check_forecasts_to) → Ready 512 c.args.s c.args.h × (c.args.h ≤ length c.args.cells.now)
unfolding forecasts_code_to
ready c =
    let z = then-zero _ _ (accepted c) in
    (forecast-ready 512 _ _ z.0, leb-true _ _ (unless-zero _ 11 z.1))

pub returns-in_err-check_forecasts_to : goal.returns-in_err-check_forecasts_to
unfolding forecasts_code_to coefficients coefficient_cells
returns-in_err-check_forecasts_to c =
    let e = c.in_err-check_forecasts_to.ensures in
    record { answer = check-rejects _ tt e c.from_residual.ensures.1; buffer = check-keeps _ _ _ e }

pub invariant_of-r : goal.invariant_of-r
invariant_of-r c =
    let q = (ready (goal.at.invariant_of-r c).In_ok-check_forecasts_to).0 in
    record { passes = q.valid; above = q.least; below = q.most }

pub fill-requires : goal.fill-requires
fill-requires c = (ready (goal.at.fill-requires c).In_ok-check_forecasts_to).1

pub returns : goal.returns
unfolding coefficients coefficient_cells
returns c =
    let z = accepted (goal.at.returns c).In_ok-check_forecasts_to in
    record { answer = rw z; buffer = rw z c.fill.ensures }
