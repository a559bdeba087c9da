use mir.Syntax.{w64}
use mir.ValLaws.{to_z-of_z}
use Rattle.relative_variance.proofs.doubles.spread.Goals as goal

pub returns : goal.returns
returns c = rw (c.square.ensures, to_z-of_z w64 c.args.m c.ranges.m)
