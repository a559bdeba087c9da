use Rattle.traces.proofs.Operations.{operation-laws}
use Rattle.traces.proofs.operation_laws.Goals as goal

pub returns : goal.returns
returns c = operation-laws
