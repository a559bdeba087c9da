use Rattle.forecasts.proofs.Computed.{pins}
use Rattle.forecasts.proofs.promises.pins.Goals as goal

pub returns : goal.returns
returns c = pins
