use Rattle.drift.proofs.Drift.{demand3}
use Rattle.drift.proofs.demand3.Goals as goal

pub returns : goal.returns
returns c = demand3
