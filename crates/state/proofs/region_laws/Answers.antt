use Rattle.state.proofs.Regions.{region-laws}
use Rattle.state.proofs.region_laws.Goals as goal

pub returns : goal.returns
returns c = region-laws
