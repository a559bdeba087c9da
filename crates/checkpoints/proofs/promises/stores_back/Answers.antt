use Rattle.checkpoints.proofs.CheckpointLaws.{stores_back}
use Rattle.checkpoints.proofs.promises.stores_back.Goals as goal

pub returns : goal.returns
returns c = stores_back
