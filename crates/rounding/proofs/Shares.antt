-- A share by a call of `round` with a product of 64 bits, as the functions `share` of ets, forecasts and weights make it: what the product asks, and what the call gives.
use Rattle.std.proofs.Common.{◌≡◌, ℕ, ◌*◌, ◌^◌, ◌<◌, ◌≤◌, Bool, true, false, ℤ, pos, ◌*ℤ◌, nat_abs, refl, ◌∙◌, arith, w64, SFits, to_z, of_z}
use lib.Signed.{mag}
use mir.Val.{hbits}
use mir.ValLaws.{to_z-of_z}
use Rattle.integers.specs.Bounds.{Within}
use Rattle.integers.proofs.Bounds.{zs, within-mul, within-fits, within-back}
use Rattle.state.specs.Fixed.{R, share, share_nat}
use Rattle.rounding.specs.Wrapped.{wrapped}
use Rattle.rounding.proofs.WrappedLaws.{result-is}

module _ (a : ℕ) (x : ℤ) (h : a ≤ 65536) (w : Within 8796093022208 x) where
  abbrev machine : ℤ
  machine = to_z w64 (of_z w64 (pos a)) *ℤ to_z w64 (of_z w64 x)

  machine-is : machine ≡ pos a *ℤ x
  machine-is = rw (to_z-of_z w64 (pos a) (record { sfits = omega arith }), within-back w64 w (omega arith))

  product-within : Within 576460752303423488 (pos a *ℤ x)
  product-within = within-mul h w

  pub product-fits : SFits w64 machine
  product-fits = rw machine-is (within-fits w64 product-within (omega arith))

  pub share-is : (even : Bool) {r : ℤ} → mag r < 2 ^ hbits w64 → r ≡ wrapped even (to_z w64 (of_z w64 machine)) → to_z w64 (of_z w64 r) ≡ share even a x
  unfolding share
  share-is even ok e = result-is even ok e (rw machine-is (within-back w64 product-within (omega arith))) product-within (omega arith)

-- ---- of numbers that are not negative, whose product is a signed number too
not_negative : (even : Bool) (v : ℕ) → R even (pos v) ≡ pos (nat_abs (R even (pos v)))
unfolding R
not_negative false v = refl
not_negative true v = refl

module _ (a x : ℕ) (h : a * x ≤ 9223372036854743039) where
  natural-within : Within 9223372036854743039 (pos (a * x))
  natural-within = within (a * x) h
    where
      within : (n : ℕ) → n ≤ 9223372036854743039 → Within 9223372036854743039 (pos n)
      within n = simp zs (omega arith)

  pub natural-fits : SFits w64 (pos (a * x))
  natural-fits = within-fits w64 natural-within (omega arith)

  pub natural-is : (even : Bool) {r : ℤ} → mag r < 2 ^ hbits w64 → r ≡ wrapped even (to_z w64 (of_z w64 (pos (a * x)))) → to_z w64 (of_z w64 r) ≡ pos (share_nat even a x)
  unfolding R share
  natural-is even ok e = result-is even ok e (to_z-of_z w64 (pos (a * x)) natural-fits) natural-within (omega arith) ∙ not_negative even (a * x)
