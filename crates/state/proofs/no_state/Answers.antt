use Rattle.state.specs.States.{no_state}
use Rattle.state.proofs.no_state.Goals as goal

pub returns : goal.returns
unfolding no_state
returns c = rw c.no_score.ensures
