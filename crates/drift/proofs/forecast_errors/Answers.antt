use Rattle.drift.proofs.ForecastErrors.{forecast-errors}
use Rattle.drift.proofs.forecast_errors.Goals as goal

pub returns : goal.returns
returns c = forecast-errors
