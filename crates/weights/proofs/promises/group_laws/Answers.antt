use Rattle.weights.proofs.GroupLaws.{group_laws}
use Rattle.weights.proofs.promises.group_laws.Goals as goal

pub returns : goal.returns
returns c = group_laws
