-- `ets::arithmetic::square` meets its contract: the product is not negative, and small.
use Prim.Native.Nat.{◌≤◌}
use mathlib.Core.Path.{◌≡◌, refl}
use native.Mathlib.Omega.{arith}
use lib.IntN.{pos, ◌*ℤ◌}
use mir.Syntax.{w64}
use mir.Val.{SFits, to_z, of_z}
use mir.ValLaws.{to_z-of_z}
use Rattle.integers.proofs.Bounds.{within-back}
use Rattle.rounding.proofs.WrappedLaws.{result-is}
use borrow.Author.Rules.{rules}
use Rattle.state.specs.Fixed.{R}
use Rattle.ets.specs.Steps.{square_of}
use Rattle.ets.proofs.ScoreLaws.{square_le, product_is}
use Rattle.updates.proofs.arithmetic.square.Statement.{statement}
use Rattle.updates.proofs.arithmetic.square.Tie as tie

module _ (c : tie.After-round-r) where
  rounded : to_z w64 (of_z w64 c.round-r.result) ≡ R c.before.args.even c.before.args.e
  rounded = result-is c.before.args.even c.round-r.type_inv c.round-r.ensures (within-back w64 c.before.requires (omega arith)) c.before.requires (omega arith)

  product : to_z w64 (of_z w64 c.round-r.result) *ℤ to_z w64 (of_z w64 c.round-r.result) ≡ pos (square_of c.before.args.even c.before.args.e)
  unfolding square_of
  product = rw rounded (product_is (R c.before.args.even c.before.args.e))

  small : square_of c.before.args.even c.before.args.e ≤ 4503599627370496
  small = square_le c.before.args.even c.before.requires

  fits : SFits w64 (pos (square_of c.before.args.even c.before.args.e))
  fits = record { sfits = omega (arith, small) }

  again : to_z w64 (of_z w64 (pos (square_of c.before.args.even c.before.args.e))) ≡ pos (square_of c.before.args.even c.before.args.e)
  again = to_z-of_z w64 _ fits

mul-result : tie.Need-overflow_mul-result
mul-result c = rw (product c) (fits c)

cast-result : tie.Need-overflow_cast-result
cast-result c = rw (product c, again c) (tt, record { fits = omega (arith, small c) })

returns : tie.Need-returns
returns c = rw (product c, again c) (refl, small c)

pub square_spec : {M : Type 1} → statement M
square_spec =
    tie.close
    (tie.spec
    (λ c κs. search rules)
    mul-result
    cast-result
    returns)
