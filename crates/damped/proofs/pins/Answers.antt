use Rattle.damped.proofs.Computed.{pins}
use Rattle.damped.proofs.pins.Goals as goal

pub returns : goal.returns
returns c = pins
