use borrow.Author.Rules.{rules}
use Rattle.forecasting.proofs.display_forecast.Goals as goal

pub forecast_to-requires : goal.forecast_to-requires
forecast_to-requires c = search rules

pub returns : goal.returns
returns c = search rules
