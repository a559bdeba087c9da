use Rattle.ets.proofs.Computed.{pins}
use Rattle.ets.proofs.promises.pins.Goals as goal

pub returns : goal.returns
returns c = pins
