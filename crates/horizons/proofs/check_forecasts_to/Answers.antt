use Rattle.state.proofs.Answers.{check-ends, check-passes}
use Rattle.horizons.proofs.check_forecasts_to.Goals as goal

pub returns-in_err-check_forecast_to : goal.returns-in_err-check_forecast_to
returns-in_err-check_forecast_to c = check-ends _ _ tt c.in_err-check_forecast_to.ensures c.from_residual.ensures.1

pub returns : goal.returns
returns c =
    let p = check-passes _ c.in_ok-check_forecast_to.ensures in
    rw p c.unless.ensures
