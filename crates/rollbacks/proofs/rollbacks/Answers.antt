use Rattle.rollbacks.proofs.Back.{rollbacks}
use Rattle.rollbacks.proofs.rollbacks.Goals as goal

pub returns : goal.returns
returns c = rollbacks
