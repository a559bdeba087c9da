use Rattle.relative_errors.proofs.ErrorKinds.{kind-laws}
use Rattle.relative_errors.proofs.promises.kind_laws.Goals as goal

pub returns : goal.returns
returns c = kind-laws
