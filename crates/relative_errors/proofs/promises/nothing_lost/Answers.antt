use Rattle.relative_errors.proofs.Exact.{nothing-lost}
use Rattle.relative_errors.proofs.promises.nothing_lost.Goals as goal

pub returns : goal.returns
returns c = nothing-lost
