-- `commands::promises::openings` meets its contract.
use Rattle.streams.proofs.StreamLaws.{openings as law}
use Rattle.streams.proofs.promises.openings.Goals as goal

pub returns : goal.returns
returns c = law
