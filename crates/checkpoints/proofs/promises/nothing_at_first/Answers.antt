use Rattle.checkpoints.proofs.CheckpointLaws.{nothing-at-first}
use Rattle.checkpoints.proofs.promises.nothing_at_first.Goals as goal

pub returns : goal.returns
returns c = nothing-at-first
