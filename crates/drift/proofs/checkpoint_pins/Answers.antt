use Rattle.drift.proofs.ComputedCheckpoints.{checkpoint-pins}
use Rattle.drift.proofs.checkpoint_pins.Goals as goal

pub returns : goal.returns
returns c = checkpoint-pins
