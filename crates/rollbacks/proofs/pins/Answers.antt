use Rattle.rollbacks.proofs.Computed.{pins}
use Rattle.rollbacks.proofs.pins.Goals as goal

pub returns : goal.returns
returns c = pins
