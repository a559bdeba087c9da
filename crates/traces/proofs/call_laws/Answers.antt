use Rattle.traces.proofs.Lists.{call-laws}
use Rattle.traces.proofs.call_laws.Goals as goal

pub returns : goal.returns
returns c = call-laws
