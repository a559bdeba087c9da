use Rattle.state.specs.Rejections.{rejection_of}
use Rattle.checkpoints.proofs.nothing_kept.Goals as goal

pub returns : goal.returns
unfolding rejection_of
returns c = rw c.no_state.ensures
