-- `commands::performing::finish` meets its contract.
use Rattle.commands.specs.Commands.{finish}
use Rattle.commands.proofs.performing.finish.Goals as goal

pub returns-then-x : goal.returns-then-x
unfolding finish
returns-then-x c = rw c.if-x.true

pub returns-else-x : goal.returns-else-x
unfolding finish
returns-else-x c = rw c.if-x.false
