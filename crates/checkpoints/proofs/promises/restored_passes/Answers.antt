use Rattle.checkpoints.proofs.CheckpointLaws.{restored-passes}
use Rattle.checkpoints.proofs.promises.restored_passes.Goals as goal

pub returns : goal.returns
returns c = restored-passes
