use Rattle.drift.proofs.ComputedClocks.{clock-pins}
use Rattle.drift.proofs.clock_pins.Goals as goal

pub returns : goal.returns
returns c = clock-pins
