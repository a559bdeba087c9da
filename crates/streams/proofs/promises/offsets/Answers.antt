-- `commands::promises::offsets` meets its contract.
use Rattle.streams.proofs.StreamLaws.{offset-laws as law}
use Rattle.streams.proofs.promises.offsets.Goals as goal

pub returns : goal.returns
returns c = law
