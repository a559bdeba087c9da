use Rattle.std.proofs.Common.{sym}
use Rattle.state.proofs.Answers.{number-code}
use Rattle.state.proofs.unless.Goals as goal

pub returns-else-holds : goal.returns-else-holds
returns-else-holds c = rw c.if-holds.false (sym (number-code c.args.rejection tt))
