use mir.Syntax.{w64}
use mir.ValLaws.{to_z-of_z}
use borrow.Author.Rules.{rules}
use Rattle.relative_errors.specs.Relative.{from_fixed, squared}
use Rattle.relative_errors.proofs.Floats.{in-float}
use Rattle.relative_variance.proofs.doubles.square.Goals as goal

pub int_to_float-x : goal.int_to_float-x
int_to_float-x c = rw (to_z-of_z w64 c.args.n c.ranges.n) (in-float c.args.n c.requires)

pub returns : goal.returns
unfolding from_fixed squared
returns c = search rules
