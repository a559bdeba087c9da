use Rattle.forecasts.proofs.DisplayLaws.{display-laws}
use Rattle.forecasts.proofs.promises.display_laws.Goals as goal

pub returns : goal.returns
returns c = display-laws
