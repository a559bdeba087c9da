use Rattle.std.proofs.Common.{arith, sym, lit<}
use Rattle.operands.proofs.ByteLaws.{none-there, below-power}
use Rattle.operands.proofs.read_le.Goals as goal

pub returns-in_default-clause-value : goal.returns-in_default-clause-value
returns-in_default-clause-value c = sym (none-there c.args.s.now c.args.at c.args.k (omega (arith, c.in_default.ensures.lookup)))

pub returns-in_default-clause-small : goal.returns-in_default-clause-small
returns-in_default-clause-small c = below-power 0 0 c.args.k (lit< tt) (omega arith)

pub returns-in-None-clause-small : goal.returns-in-None-clause-small
returns-in-None-clause-small c = below-power _ _ _ c.number_of-in-None.ensures.small (omega (arith, c.in-None.ensures.lookup))
