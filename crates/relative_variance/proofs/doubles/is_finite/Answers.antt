use Rattle.relative_errors.proofs.Floats.{self-difference}
use Rattle.relative_variance.proofs.doubles.is_finite.Goals as goal

pub returns : goal.returns
returns c = self-difference c.args.x
