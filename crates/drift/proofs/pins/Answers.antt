use Rattle.drift.proofs.Computed.{pins}
use Rattle.drift.proofs.pins.Goals as goal

pub returns : goal.returns
returns c = pins
