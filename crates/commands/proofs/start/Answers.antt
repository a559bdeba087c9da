-- `commands::start` meets its contract.
use Rattle.commands.specs.Commands.{start}
use Rattle.commands.proofs.start.Goals as goal

pub returns : goal.returns
unfolding start
returns c = rw c.no_state.ensures
