use Rattle.rounding.proofs.Shares.{product-fits, share-is}
use mathlib.Core.Bool.{true, false}
use Rattle.forecasting.proofs.sums.share.Goals as goal

pub overflow_mul-v : goal.overflow_mul-v
overflow_mul-v c = product-fits c.args.a c.args.x c.requires.0 c.requires.1

pub returns-then-even : goal.returns-then-even
returns-then-even c =
    let s = c in
    rw c.if-even.true (share-is s.args.a s.args.x s.requires.0 s.requires.1 true c.round.type_inv c.round.ensures)

pub returns-else-even : goal.returns-else-even
returns-else-even c =
    let s = c in
    rw c.if-even.false (share-is s.args.a s.args.x s.requires.0 s.requires.1 false c.round-else-even.type_inv c.round-else-even.ensures)
