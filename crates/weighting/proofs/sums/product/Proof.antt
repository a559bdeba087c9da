-- The product from the weight's two halves.
use Prim.Native.Nat.{ℕ, ◌+◌, ◌*◌, ◌/◌, ◌%◌, ◌≤◌}
use mathlib.Core.Path.{◌≡◌, ap, ap₂, ◌∙◌}
use native.Mathlib.Omega.{arith}
use native.Mathlib.Nat.{add-mul, mul_assoc}
use borrow.Author.Rules.{rules}
use Rattle.weights.proofs.Terms.{product_le}
use Rattle.weighting.proofs.sums.product.Statement.{statement}
use Rattle.weighting.proofs.sums.product.Tie as tie

module _ (c : tie.Start) where
  low_small : c.args.w % 4294967296 * c.args.sigma2 ≤ 4294967295 * 4294967295
  low_small = product_le 4294967295 4294967295 (omega arith) (omega arith)

  mid-small : c.args.w / 4294967296 * c.args.sigma2 ≤ 4294967295 * 4294967295
  mid-small = product_le 4294967295 4294967295 (omega arith) (omega arith)

  split : c.args.w * c.args.sigma2 ≡ 4294967296 * (c.args.w / 4294967296 * c.args.sigma2) + c.args.w % 4294967296 * c.args.sigma2
  split =
      let e : c.args.w ≡ 4294967296 * (c.args.w / 4294967296) + c.args.w % 4294967296 = omega arith in
      ap (λ (n : ℕ). n * c.args.sigma2) e ∙ add-mul (4294967296 * (c.args.w / 4294967296)) (c.args.w % 4294967296) c.args.sigma2
      ∙ ap (λ (n : ℕ). n + c.args.w % 4294967296 * c.args.sigma2) (mul_assoc 4294967296 (c.args.w / 4294967296) c.args.sigma2)

mul_low : tie.Need-overflow_mul-low
mul_low c = omega (arith, low_small c)

mul-mid : tie.Need-overflow_mul-mid
mul-mid c = omega (arith, mid-small c)

add-mid : tie.Need-overflow_add-mid
add-mid c = omega (arith, mid-small c, low_small c)

returns : tie.Need-returns
returns c =
    ap₂ (λ (high low : ℕ). record { high = high; low = low })
    (omega (arith, split c, mid-small c, low_small c)) (omega (arith, split c, mid-small c, low_small c))

pub product_spec : {M : Type 1} → statement M
product_spec =
    tie.close
    (tie.spec
    mul_low
    mul-mid
    add-mid
    (λ c. search rules)
    (λ c. search rules)
    returns)
