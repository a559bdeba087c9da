use Prim.Native.Nat.{ℕ, ◌*◌, ◌^◌, ◌≤◌, ◌<◌}
use mathlib.Core.Path.{◌≡◌, refl}
use mathlib.Core.Bool.{Bool, true, false}
use native.Mathlib.Omega.{arith}
use lib.Dec.{T}
use lib.IntN.{ℤ, pos, nat_abs}
use lib.Signed.{mag, non_neg}
use mir.Syntax.{w64}
use mir.Val.{Fits, hbits, to_z, of_z}
use Rattle.state.specs.Fixed.{share_nat}
use Rattle.rounding.specs.Wrapped.{wrapped}
use Rattle.rounding.proofs.Shares.{natural-fits, natural-is}
use borrow.Author.Rules.{rules}
use Rattle.weights.proofs.Terms.{product_le, shrinks}
use Rattle.weighting.proofs.sums.share.Statement.{statement}
use Rattle.weighting.proofs.sums.share.Tie as tie

-- the share is at most x
small : (c : tie.Start) → c.args.a * c.args.x ≤ 65536 * c.args.x
small c = product_le 65536 c.args.x c.requires.0 (omega arith)

-- what the call gives, by either rule
module _ (c : tie.Start) (even : Bool) {r : ℤ} (ok : mag r < 2 ^ hbits w64) (e : r ≡ wrapped even (to_z w64 (of_z w64 (pos (c.args.a * c.args.x))))) where
  abbrev answer : ℕ
  answer = share_nat even c.args.a c.args.x

  result-is : to_z w64 (of_z w64 r) ≡ pos answer
  result-is = natural-is c.args.a c.args.x (omega (arith, small c)) even ok e

  bound : answer ≤ c.args.x
  bound = shrinks even c.args.a c.args.x c.requires.0

  cast : T (non_neg (to_z w64 (of_z w64 r))) × Fits w64 (nat_abs (to_z w64 (of_z w64 r)))
  cast = rw result-is (tt, record { fits = omega (arith, bound) })

  given : (nat_abs (to_z w64 (of_z w64 r)) ≡ answer) × (nat_abs (to_z w64 (of_z w64 r)) ≤ c.args.x)
  given = rw result-is (refl, bound)

mul-v : tie.Need-overflow_mul-v
mul-v c = omega (arith, small c)

cast-v : tie.Need-overflow_cast-v-2
cast-v c = natural-fits c.args.a c.args.x (omega (arith, small c))

cast-result : tie.Need-overflow_cast-result
cast-result c = cast c.before.before true c.round.type_inv c.round.ensures

cast-result-2 : tie.Need-overflow_cast-result-else-even
cast-result-2 c = cast c.before.before false c.round-else-even.type_inv c.round-else-even.ensures

returns : tie.Need-returns-then-even
returns c = rw c.before.if-even.true (given c.before.before true c.round.type_inv c.round.ensures)

returns-2 : tie.Need-returns-else-even
returns-2 c = rw c.before.if-even.false (given c.before.before false c.round-else-even.type_inv c.round-else-even.ensures)

pub share_spec : {M : Type 1} → statement M
share_spec =
    tie.close
    (tie.spec
    mul-v
    cast-v
    (λ c κs. search rules)
    cast-result
    (λ c κs. search rules)
    cast-result-2
    returns
    returns-2)
