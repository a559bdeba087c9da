use Rattle.operands.proofs.ByteLaws.{IsRead}
use Rattle.operands.proofs.number_of.Given as goal

abbrev pub invariant-loop-byte : goal.invariant-loop-byte
invariant-loop-byte l = IsRead l.bytes l.byte-iterator.iter.rest.now l.number
