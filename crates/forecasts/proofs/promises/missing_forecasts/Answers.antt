use Rattle.forecasts.proofs.MissingLaws.{missing-forecasts}
use Rattle.forecasts.proofs.promises.missing_forecasts.Goals as goal

pub returns : goal.returns
returns c = missing-forecasts
