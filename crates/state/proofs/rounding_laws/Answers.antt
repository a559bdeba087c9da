use Rattle.state.proofs.Rounding.{rounding}
use Rattle.state.proofs.rounding_laws.Goals as goal

pub returns : goal.returns
returns c = rounding
