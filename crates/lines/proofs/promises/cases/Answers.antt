-- `lines::promises::cases` meets its contract.
use Rattle.lines.proofs.DecimalLaws.{cases as law}
use Rattle.lines.proofs.promises.cases.Goals as goal

pub returns : goal.returns
returns c = law
