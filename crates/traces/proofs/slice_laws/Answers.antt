use Rattle.traces.proofs.Lists.{slice-laws}
use Rattle.traces.proofs.slice_laws.Goals as goal

pub returns : goal.returns
returns c = slice-laws
