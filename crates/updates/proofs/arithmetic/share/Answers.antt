use Rattle.rounding.proofs.Shares.{product-fits, share-is}
use Rattle.updates.proofs.arithmetic.share.Goals as goal

pub overflow_mul-a : goal.overflow_mul-a
overflow_mul-a c = product-fits c.args.a c.args.x c.requires.0 c.requires.1

pub returns : goal.returns
returns c =
    let s = c in
    share-is s.args.a s.args.x s.requires.0 s.requires.1 s.args.even c.round.type_inv c.round.ensures
