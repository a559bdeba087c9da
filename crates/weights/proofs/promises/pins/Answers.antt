use Rattle.weights.proofs.Computed.{pins}
use Rattle.weights.proofs.promises.pins.Goals as goal

pub returns : goal.returns
returns c = pins
