-- `lines::promises::decimals` meets its contract.
use Rattle.lines.proofs.DecimalLaws.{decimals as law}
use Rattle.lines.proofs.promises.decimals.Goals as goal

pub returns : goal.returns
returns c = law
