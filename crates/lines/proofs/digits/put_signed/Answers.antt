use Rattle.std.proofs.Common.{◌≡◌, ℕ, ℤ, true, false, ◌∷◌, pos, arith, ap, length, w64, to_z, of_z}
use mir.Val.{SFits}
use mir.ValLaws.{to_z-of_z}
use lib.IntN.{nat_abs}
use lib.Signed.{lt_z}
use Rattle.lines.specs.Lines.{decimal, signed_decimal}
use Rattle.lines.proofs.DigitLaws.{signed-negative, signed-nonnegative, put_then}
use Rattle.lines.proofs.digits.put_signed.Goals as goal

-- what is to be written of a negative number, and of another
module _ (z : ℤ) (n : ℕ) (fits : SFits w64 z) (magnitude : n ≡ nat_abs (to_z w64 (of_z w64 z))) where
  minus : lt_z (to_z w64 (of_z w64 z)) (pos 0) ≡ true → signed_decimal z ≡ 45 ∷ decimal n
  minus t = let e = to_z-of_z w64 z fits in rw (magnitude, e) (signed-negative z (rw e at t))

  plain : lt_z (to_z w64 (of_z w64 z)) (pos 0) ≡ false → signed_decimal z ≡ decimal n
  plain t = let e = to_z-of_z w64 z fits in rw (magnitude, e) (signed-nonnegative z (rw e at t))

pub put_byte-next-requires : goal.put_byte-next-requires
put_byte-next-requires c = omega (arith, ap length (minus c.args.z _ c.ranges.z c.magnitude-n.ensures c.if-z-lt0.true))

pub put_decimal-requires : goal.put_decimal-requires
put_decimal-requires c = omega (arith, ap length (minus c.args.z _ c.ranges.z c.magnitude-n.ensures c.if-z-lt0.true))

pub returns-then-z-lt0 : goal.returns-then-z-lt0
returns-then-z-lt0 c =
    rw (minus c.args.z _ c.ranges.z c.magnitude-n.ensures c.if-z-lt0.true) (put_then c.put_byte-next.ensures c.put_decimal.ensures)

pub put_decimal-requires-2 : goal.put_decimal-requires-2
put_decimal-requires-2 c = omega (arith, ap length (plain c.args.z _ c.ranges.z c.magnitude-n.ensures c.if-z-lt0.false))

pub returns : goal.returns
returns c = rw (plain c.args.z _ c.ranges.z c.magnitude-n.ensures c.if-z-lt0.false) c.put_decimal-2.ensures
