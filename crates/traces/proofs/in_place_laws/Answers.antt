use Rattle.traces.proofs.Lists.{in-place-laws}
use Rattle.traces.proofs.in_place_laws.Goals as goal

pub returns : goal.returns
returns c = in-place-laws
