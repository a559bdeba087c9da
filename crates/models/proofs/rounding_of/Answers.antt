-- As the season's: the shift by 6 is the quotient by 64.
use Prim.Native.Nat.{◌/◌}
use lib.Bits.{and_mask}
use Rattle.models.proofs.rounding_of.Goals as goal

pub returns : goal.returns
returns c = and_mask (c.args.model / 64) 1
