-- `commands::promises::sessions` meets its contract.
use Rattle.streams.proofs.SessionLaws.{sessions as law}
use Rattle.streams.proofs.promises.sessions.Goals as goal

pub returns : goal.returns
returns c = law
