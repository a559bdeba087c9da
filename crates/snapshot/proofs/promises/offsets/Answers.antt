use Rattle.snapshot.proofs.OffsetLaws.{offsets}
use Rattle.snapshot.proofs.promises.offsets.Goals as goal

pub returns : goal.returns
returns c = offsets
