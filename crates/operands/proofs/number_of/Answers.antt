use Rattle.std.proofs.Common.{◌≡◌, length, arith}
use Rattle.operands.proofs.ByteLaws.{none-read, byte-is, below, read-more}
use Rattle.operands.proofs.number_of.Goals as goal

pub loop-byte-init : goal.loop-byte-init
loop-byte-init c =
    let e : c.into_iter-byte-iterator.result.iter.rest.now ≡ c.args.bytes.now = cc in
    rw e (none-read c.args.bytes.now)

pub overflow_mul-number : goal.overflow_mul-number
overflow_mul-number c = omega (arith, below _ _ _ _ _ c.loop-byte.invariant c.in-Some.ensures.steps c.requires)

pub overflow_add-number : goal.overflow_add-number
overflow_add-number c =
    let last = c.in-Some.ensures.steps in
    omega (arith, below _ _ _ _ _ c.loop-byte.invariant last c.requires, byte-is _ _ _ _ _ c.loop-byte.invariant last, c.type_inv.bytes (length c.next.new.self.iter.rest.now))

pub loop-byte-preserved : goal.loop-byte-preserved
loop-byte-preserved c =
    let last = c.in-Some.ensures.steps in
    read-more _ _ _ _ _ c.loop-byte.invariant last (omega (arith, byte-is _ _ _ _ _ c.loop-byte.invariant last, c.type_inv.bytes (length c.next.new.self.iter.rest.now)))
