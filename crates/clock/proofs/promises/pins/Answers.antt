use Rattle.clock.proofs.Computed.{pins}
use Rattle.clock.proofs.promises.pins.Goals as goal

pub returns : goal.returns
returns c = pins
