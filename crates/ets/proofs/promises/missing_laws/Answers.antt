use Rattle.ets.proofs.MissingLaws.{missing-laws}
use Rattle.ets.proofs.promises.missing_laws.Goals as goal

pub returns : goal.returns
returns c = missing-laws
