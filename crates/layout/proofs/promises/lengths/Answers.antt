use Rattle.layout.proofs.AnswerLaws.{lengths}
use Rattle.layout.proofs.promises.lengths.Goals as goal

pub returns : goal.returns
returns c = lengths
