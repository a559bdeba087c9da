use Rattle.forecasts.specs.Forecasts.{forecast_code_to}
use Rattle.state.proofs.Answers.{check-ends, check-passes}
use Rattle.horizons.proofs.check_forecast_to.Goals as goal

pub returns-in_err-check : goal.returns-in_err-check
unfolding forecast_code_to
returns-in_err-check c = check-ends _ _ tt c.in_err-check.ensures c.from_residual.ensures.1

pub returns : goal.returns
unfolding forecast_code_to
returns c =
    let p = check-passes _ c.in_ok-check.ensures in
    rw p (rw c.horizon_ok.ensures at c.unless.ensures)
