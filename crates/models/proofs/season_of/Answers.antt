-- The shift by 2 is the quotient by 4, and the mask is 2 ^ 1 − 1.
use Prim.Native.Nat.{◌/◌}
use lib.Bits.{and_mask}
use Rattle.models.proofs.season_of.Goals as goal

pub returns : goal.returns
returns c = and_mask (c.args.model / 4) 1
