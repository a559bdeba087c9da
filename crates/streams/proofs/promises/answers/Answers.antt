-- `commands::promises::answers` meets its contract.
use Rattle.streams.proofs.StreamLaws.{answers-laws as law}
use Rattle.streams.proofs.promises.answers.Goals as goal

pub returns : goal.returns
returns c = law
