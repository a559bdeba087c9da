use Rattle.std.proofs.Common.{◌≡◌, ◌-◌, suc, arith, refl, ◌∙◌}
use Rattle.lines.specs.Lines.{digits}
use Rattle.lines.proofs.DigitLaws.{digits_more}
use Rattle.lines.proofs.digits.put_digits.Goals as goal

pub loop-i-init : goal.loop-i-init
loop-i-init c = refl

pub loop-i-preserved : goal.loop-i-preserved
loop-i-preserved c =
    let e : c.loop-i.i ≡ suc (c.loop-i.i - 1) = omega arith in
    digits_more _ _ _ _ ∙ rw e at c.loop-i.invariant

pub returns : goal.returns
unfolding digits
returns c =
    let z : c.loop-i.i ≡ 0 = omega arith in
    rw z at c.loop-i.invariant
