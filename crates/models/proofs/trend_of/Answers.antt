-- The mask is 2 ^ 2 − 1, so what is left is the remainder by 4.
use lib.Bits.{and_mask}
use Rattle.models.proofs.trend_of.Goals as goal

pub returns : goal.returns
returns c = and_mask c.args.model 2
