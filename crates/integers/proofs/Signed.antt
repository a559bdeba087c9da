-- Between a signed number and its bits, by tests and sums that lose no bits. At every width.
use Prim.Native.Nat.{ℕ, zero, suc, ◌-◌, ◌*◌, ◌^◌, ◌≤◌, ◌<◌}
use mathlib.Core.Path.{◌≡◌, refl, ap, ◌∙◌}
use mathlib.Core.Bool.{true, false, true≢false}
use native.Mathlib.Omega.{arith}
use borrow.Author.Tests.{le-ltb, ltb-true}
use lib.Dec.{T, ltb}
use lib.Pow.{le_ones}
use native.Mathlib.Nat.{not-suc-le-zero, zero-add}
use lib.IntN.{ℤ, pos, negsuc, nat_abs, ◌-ℤ◌}
use lib.Signed.{lt_z, mag, non_neg}
use mir.Syntax.{Width}
use mir.Val.{Fits, SFits, bits, hbits, to_z, of_z}
use mir.ValLaws.{half_full, pow-bits, to_z_pos, to_z-Fits, to_z-of_z}

-- ---- to its bits
-- -1 - z, of a negative z
minus-neg : (z : ℤ) → lt_z z (pos 0) ≡ true → negsuc 0 -ℤ z ≡ pos (mag z)
minus-neg (pos n) t = absurd (not-suc-le-zero (ltb-true n 0 t))
minus-neg (negsuc k) t =
    let e : ltb (suc k) 1 ≡ false = le-ltb (suc k) 1 (omega arith) in
    let f : suc k - 1 ≡ k = omega arith in
    rw (e, f)

neg_bits : (w : Width) (z : ℤ) → lt_z z (pos 0) ≡ true → (2 ^ bits w - 1) - mag z ≡ of_z w z
neg_bits w (pos n) t = absurd (not-suc-le-zero (ltb-true n 0 t))
neg_bits w (negsuc k) t = omega arith

pos-bits : (w : Width) (z : ℤ) → lt_z z (pos 0) ≡ false → nat_abs z ≡ of_z w z
pos-bits w (pos n) t = refl
pos-bits w (negsuc k) t = absurd (true≢false t)

pos-mag : (z : ℤ) → lt_z z (pos 0) ≡ false → z ≡ pos (mag z)
pos-mag (pos n) t = refl
pos-mag (negsuc k) t = absurd (true≢false t)

module _ (w : Width) where
  -- the bits of z: z itself where it is not negative, else MAX - (-1 - z). What each step of that asks, and what it gives
  module _ (z : ℤ) (f : SFits w z) where
    small : Fits w (mag z)
    small = record { fits = half_full w f.sfits }

    module _ (t : lt_z (to_z w (of_z w z)) (pos 0) ≡ false) where
      kept : to_z w (of_z w z) ≡ pos (mag z)
      kept = rw (to_z-of_z w z f) (pos-mag z (rw (to_z-of_z w z f) at t))

      pub kept-cast : T (non_neg (to_z w (of_z w z))) × Fits w (nat_abs (to_z w (of_z w z)))
      kept-cast = rw kept (tt, small)

      pub kept-bits : nat_abs (to_z w (of_z w z)) ≡ of_z w z
      kept-bits = ap nat_abs (to_z-of_z w z f) ∙ pos-bits w z (rw (to_z-of_z w z f) at t)

    module _ (t : lt_z (to_z w (of_z w z)) (pos 0) ≡ true) where
      up : negsuc 0 -ℤ to_z w (of_z w z) ≡ pos (mag z)
      up = rw (to_z-of_z w z f) (minus-neg z (rw (to_z-of_z w z f) at t))

      pub up_fits : SFits w (negsuc 0 -ℤ to_z w (of_z w z))
      up_fits = rw up (record { sfits = f.sfits })

      back : to_z w (of_z w (negsuc 0 -ℤ to_z w (of_z w z))) ≡ pos (mag z)
      back = to_z-of_z w _ up_fits ∙ up

      pub up-cast : T (non_neg (to_z w (of_z w (negsuc 0 -ℤ to_z w (of_z w z))))) × Fits w (nat_abs (to_z w (of_z w (negsuc 0 -ℤ to_z w (of_z w z)))))
      up-cast = rw back (tt, small)

      pub up_le : nat_abs (to_z w (of_z w (negsuc 0 -ℤ to_z w (of_z w z)))) ≤ 2 ^ bits w - 1
      up_le = rw back (le_ones (bits w) small.fits)

      pub up-bits : (2 ^ bits w - 1) - nat_abs (to_z w (of_z w (negsuc 0 -ℤ to_z w (of_z w z)))) ≡ of_z w z
      up-bits = rw back (neg_bits w z (rw (to_z-of_z w z f) at t))

-- ---- back
-- -1 - k, of a natural k
minus_pos : (k : ℕ) → negsuc 0 -ℤ pos k ≡ negsuc k
minus_pos zero = refl
minus_pos (suc k) = rw zero-add

module _ (w : Width) where
  -- the upper half of the bits: -1 - (MAX - n) is what n stands for
  pub down : (n : ℕ) → 2 ^ hbits w ≤ n → Fits w n → negsuc 0 -ℤ to_z w ((2 ^ bits w - 1) - n) ≡ to_z w n
  down n h f =
      let e : 2 ^ bits w ≡ 2 ^ hbits w * 2 = pow-bits w in
      let k : (2 ^ bits w - 1) - n < 2 ^ hbits w = omega (arith, f.fits) in
      let g : (2 ^ bits w - 1) - n ≡ 2 ^ bits w - suc n = omega arith in
      rw (to_z_pos w ((2 ^ bits w - 1) - n) k, minus_pos, le-ltb n (2 ^ hbits w) h, g)

  pub down_fits : (n : ℕ) → 2 ^ hbits w ≤ n → Fits w n → SFits w (negsuc 0 -ℤ to_z w ((2 ^ bits w - 1) - n))
  down_fits n h f = rw (down n h f) (to_z-Fits w n f)
