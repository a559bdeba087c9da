use Rattle.std.proofs.Common.{◌≡◌, arith, length, add-zero, ◌∙◌}
use Rattle.std.proofs.Math.Seq.{drop-length}
use Rattle.lines.specs.Lines.{hexadecimal}
use Rattle.lines.proofs.DigitLaws.{hex-more, length-hexadecimal}
use Rattle.lines.proofs.digits.put_hexadecimal.Goals as goal

pub loop-i-init : goal.loop-i-init
loop-i-init c = rw add-zero

pub loop-i-preserved : goal.loop-i-preserved
loop-i-preserved c = rw c.put_hex_byte.ensures (hex-more _ _ _ _ c.loop-i-test.true ∙ c.loop-i.invariant)

pub returns : goal.returns
unfolding hexadecimal
returns c =
    let z : c.loop-i.i ≡ length c.args.s.now = omega arith in
    record { past = omega (arith, length-hexadecimal c.args.s.now); stored = rw (z, drop-length c.args.s.now) at c.loop-i.invariant }
