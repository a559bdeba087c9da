use Rattle.state.proofs.Computed.{pins}
use Rattle.state.proofs.pins.Goals as goal

pub returns : goal.returns
returns c = pins
