-- R as the code computes it in 64 bits: with rule 0 or 1 and the bits n of v, ((n + (32768 − rule)) + ((n >> 16) & rule)) >> 16, the sums modulo 2^64; and where it is R.
use Rattle.std.proofs.Common.{◌≡◌, ℕ, ◌+◌, ◌-◌, ◌/◌, ◌%◌, ◌^◌, ◌<◌, ◌≤◌, Bool, true, false, ℤ, pos, negsuc, ◌+ℤ◌, nat_abs, sym, refl, ap, ◌∙◌, arith, w64, SFits, to_z, of_z}
use lib.Bits.{bit_and, and_mask}
use lib.Signed.{shr_z, mag}
use mir.Val.{hbits, bool_byte}
use mir.ValLaws.{to_z-of_z}
use Rattle.integers.specs.Bounds.{Within}
use Rattle.integers.proofs.Difference.{up, dn, known, sum, back, fits-shr}
use Rattle.integers.proofs.Bounds.{zs, within-fits, within-le}
use Rattle.state.specs.Fixed.{R}
use Rattle.state.proofs.Rounding.{added, added-le, R-is}
use Rattle.rounding.specs.Wrapped.{sum64, wrapped}

-- ---- what is added
-- the parity of the whole part is bit 16, of a negative number too
parity : (v : ℤ) → SFits w64 v → of_z w64 v / 65536 % 2 ≡ nat_abs (shr_z v 65536) % 2
parity (pos n) f = refl
parity (negsuc n) f = let h : n < 9223372036854775808 = f.sfits in omega arith

adds : (even : Bool) (v : ℤ) → SFits w64 v → (32768 - bool_byte even) + bit_and (of_z w64 v / 65536) (bool_byte even) ≡ added even v
unfolding added
adds false v f = omega (arith, and_mask (of_z w64 v / 65536) 0)
adds true v f = omega (arith, and_mask (of_z w64 v / 65536) 1, parity v f)

wrapped-is : (even : Bool) (v : ℤ) → wrapped even v ≡ shr_z (sum64 v (added even v)) 65536
unfolding wrapped added
wrapped-is false v = refl
wrapped-is true v = refl

-- ---- what the code's operations give
pub rule-le : (even : Bool) → bool_byte even ≤ 1
rule-le false = omega arith
rule-le true = omega arith

module _ (even : Bool) (v : ℤ) (f : SFits w64 v) {n : ℕ} (e : n ≡ of_z w64 (to_z w64 (of_z w64 v))) where
  bits_of : n ≡ of_z w64 v
  bits_of = e ∙ ap (of_z w64) (to_z-of_z w64 v f)

  -- the sum in two steps, each modulo 2^64
  code_sum : {m s : ℕ} → m ≡ (n + (32768 - bool_byte even)) % 2 ^ 64 → s ≡ (m + bit_and (n / 65536) (bool_byte even)) % 2 ^ 64 → s ≡ (of_z w64 v + added even v) % 2 ^ 64
  code_sum = rw bits_of (λ p q. omega (arith, p, q, adds even v f))

  pub code_is : {m s : ℕ} {r : ℤ} → m ≡ (n + (32768 - bool_byte even)) % 2 ^ 64 → s ≡ (m + bit_and (n / 65536) (bool_byte even)) % 2 ^ 64 → r ≡ to_z w64 s → mag r < 2 ^ hbits w64
      → to_z w64 (of_z w64 (shr_z (to_z w64 (of_z w64 r)) 65536)) ≡ wrapped even v
  code_is {r} p q u ok =
      let b : to_z w64 (of_z w64 (shr_z r 65536)) ≡ shr_z r 65536 = to_z-of_z w64 (shr_z r 65536) (fits-shr {z = r} 65536 (record { sfits = ok })) in
      let t : shr_z r 65536 ≡ wrapped even v = rw (u, code_sum p q) (sym (wrapped-is even v)) in
      rw (back w64 r ok) (b ∙ t)

-- ---- where it is R
-- a number's bits are the number modulo 2^64
bits_are : (z : ℤ) → SFits w64 z → (of_z w64 z < 18446744073709551616) × ((of_z w64 z + dn z) % 18446744073709551616 ≡ up z)
bits_are (pos n) f = let h : n < 9223372036854775808 = f.sfits in (omega arith, omega arith)
bits_are (negsuc n) f = let h : n < 9223372036854775808 = f.sfits in (omega arith, omega arith)

module _ (v : ℤ) (c : ℕ) (f : SFits w64 v) (g : SFits w64 (v +ℤ pos c)) where
  sum-bits : (of_z w64 v + c) % 2 ^ 64 ≡ of_z w64 (v +ℤ pos c)
  sum-bits = omega (arith, bits_are v f, bits_are (v +ℤ pos c) g, sum v (pos c))

  sum_is : sum64 v c ≡ v +ℤ pos c
  sum_is = rw sum-bits (to_z-of_z w64 (v +ℤ pos c) g)

-- 2^63 − 32769, the greatest v for which v + 32768 fits
pub wrapped-R : (even : Bool) (v : ℤ) → Within 9223372036854743039 v → wrapped even v ≡ R even v
wrapped-R even v w =
    rw (wrapped-is even v, R-is even v, sum_is v (added even v) (within-fits w64 w (omega arith)) (fits v (added even v) (added-le even v).1 w))
  where
    fits : (v : ℤ) (c : ℕ) → c ≤ 32768 → Within 9223372036854743039 v → SFits w64 (v +ℤ pos c)
    fits v c = rw (known v) (simp zs (omega arith))

-- what a call's result is, where the number that it was given is known and small
pub result-is : (even : Bool) {n : ℕ} {x v r : ℤ} → mag r < 2 ^ hbits w64 → r ≡ wrapped even x → x ≡ v → Within n v → n ≤ 9223372036854743039 → to_z w64 (of_z w64 r) ≡ R even v
result-is even {v} {r} ok e i w h = back w64 r ok ∙ e ∙ ap (wrapped even) i ∙ wrapped-R even v (within-le 9223372036854743039 h w)
