-- As the season's: the shift by 3 is the quotient by 8.
use Prim.Native.Nat.{◌/◌}
use lib.Bits.{and_mask}
use Rattle.models.proofs.errors_of.Goals as goal

pub returns : goal.returns
returns c = and_mask (c.args.model / 8) 1
