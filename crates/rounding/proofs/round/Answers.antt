-- `rounding::round` meets its contract.
use Rattle.std.proofs.Common.{arith, refl}
use Rattle.rounding.proofs.WrappedLaws.{rule-le, code_is}
use Rattle.rounding.proofs.round.Goals as goal

pub overflow_sub-sum : goal.overflow_sub-sum
overflow_sub-sum c = omega (arith, rule-le c.args.even)

pub returns : goal.returns
returns c =
    let s = c in
    code_is
    s.args.even
    s.args.v
    s.ranges.v
    c.of_i64-n.ensures
    refl
    refl
    c.to_i64.ensures
    c.to_i64.type_inv
