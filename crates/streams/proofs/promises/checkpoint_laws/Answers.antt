use Rattle.streams.proofs.CheckpointLaws.{checkpoint-laws}
use Rattle.streams.proofs.promises.checkpoint_laws.Goals as goal

pub returns : goal.returns
returns c = checkpoint-laws
