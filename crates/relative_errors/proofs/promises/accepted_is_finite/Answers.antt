use Rattle.relative_errors.proofs.Finite.{accepted-is-finite}
use Rattle.relative_errors.proofs.promises.accepted_is_finite.Goals as goal

pub returns : goal.returns
returns c = accepted-is-finite
