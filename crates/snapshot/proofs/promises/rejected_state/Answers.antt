use Rattle.snapshot.proofs.Decoded.{rejected-state}
use Rattle.snapshot.proofs.promises.rejected_state.Goals as goal

pub returns : goal.returns
returns c = rejected-state
