-- The laws of R by each rounding rule. All but those of a tie follow from its being nearest: 65536 R(v) is at most 32768 from v.
use Prim.Native.Nat.{ℕ, ◌+◌, ◌*◌, ◌-◌, ◌/◌, ◌%◌, ◌≤◌}
use mathlib.Core.Path.{◌≡◌, refl, subst}
use mathlib.Core.Bool.{Bool, true, false}
use native.Mathlib.Omega.{arith}
use lib.IntN.{ℤ, pos, negsuc, nat_abs, ◌+ℤ◌, ◌*ℤ◌, zero-*ℤ}
use lib.Signed.{shr_z, lt_z, ◌≤ℤ◌, ◌<ℤ◌}
use Rattle.integers.specs.Bounds.{Within}
use Rattle.integers.proofs.Bounds.{zs, within-mul}
use Rattle.integers.proofs.Difference.{up, dn, diff, ints, known, sum, product}
use Rattle.state.specs.Fixed.{R, share, share_nat}
use Rattle.state.specs.Rounding.{Nearest, Tie, Even, Rounding}

-- ---- the shift that rounds down
shr-low : (u : ℤ) → (pos 65536 *ℤ shr_z u 65536) ≤ℤ u
shr-low (pos a) = omega ints
shr-low (negsuc a) = omega (ints, product (pos 65536) (negsuc (a / 65536)))

shr_high : (u : ℤ) → u <ℤ (pos 65536 *ℤ shr_z u 65536 +ℤ pos 65536)
shr_high (pos a) = omega ints
shr_high (negsuc a) = omega (ints, product (pos 65536) (negsuc (a / 65536)), sum (pos 65536 *ℤ negsuc (a / 65536)) (pos 65536))

-- the only number with both bounds
only-shift : (r k v : ℤ) → (pos 65536 *ℤ r) ≤ℤ v → v <ℤ (pos 65536 *ℤ r +ℤ pos 65536) → (pos 65536 *ℤ k) ≤ℤ v → v <ℤ (pos 65536 *ℤ k +ℤ pos 65536) → r ≡ k
only-shift r k v = rw (known r, known k, known v) (simp diff (omega arith))

-- what is added before it
unfoldable pub added : Bool → ℤ → ℕ
added false v = 32768
added true v = 32767 + nat_abs (shr_z v 65536) % 2

pub R-is : (even : Bool) (v : ℤ) → R even v ≡ shr_z (v +ℤ pos (added even v)) 65536
unfolding R added
R-is false v = refl
R-is true v = refl

pub added-le : (even : Bool) (v : ℤ) → (32767 ≤ added even v) × (added even v ≤ 32768)
unfolding added
added-le false v = (omega arith, omega arith)
added-le true v = (omega arith, omega arith)

-- ---- nearest
pub R-low : (even : Bool) (v : ℤ) → (pos 65536 *ℤ R even v) ≤ℤ (v +ℤ pos 32768)
R-low even v =
    let c = added-le even v in
    rw (R-is even v) (go (shr_z (v +ℤ pos (added even v)) 65536) v (added even v) c.1 (shr-low (v +ℤ pos (added even v))))
  where
    go : (r v : ℤ) (c : ℕ) → c ≤ 32768 → (pos 65536 *ℤ r) ≤ℤ (v +ℤ pos c) → (pos 65536 *ℤ r) ≤ℤ (v +ℤ pos 32768)
    go r v c = rw (known r, known v) (simp diff (omega arith))

pub R-high : (even : Bool) (v : ℤ) → v ≤ℤ (pos 65536 *ℤ R even v +ℤ pos 32768)
R-high even v =
    let c = added-le even v in
    rw (R-is even v) (go (shr_z (v +ℤ pos (added even v)) 65536) v (added even v) c.0 (shr_high (v +ℤ pos (added even v))))
  where
    go : (r v : ℤ) (c : ℕ) → 32767 ≤ c → (v +ℤ pos c) <ℤ (pos 65536 *ℤ r +ℤ pos 65536) → v ≤ℤ (pos 65536 *ℤ r +ℤ pos 32768)
    go r v c = rw (known r, known v) (simp diff (omega arith))

half : (v r : ℤ) → (pos 65536 *ℤ r) ≤ℤ (v +ℤ pos 32768) → v ≤ℤ (pos 65536 *ℤ r +ℤ pos 32768) → Nearest v r
half v r = rw (known v, known r) (simp zs (omega arith))

pub R-error : (even : Bool) (v : ℤ) → Nearest v (R even v)
R-error even v = half v (R even v) (R-low even v) (R-high even v)

-- a whole number of units is left as it is
whole : (k r : ℤ) → (pos 65536 *ℤ r) ≤ℤ (pos 65536 *ℤ k +ℤ pos 32768) → (pos 65536 *ℤ k) ≤ℤ (pos 65536 *ℤ r +ℤ pos 32768) → r ≡ k
whole k r = rw (known k, known r) (simp diff (omega arith))

pub R-whole : (even : Bool) (k : ℤ) → R even (pos 65536 *ℤ k) ≡ k
R-whole even k = whole k (R even (pos 65536 *ℤ k)) (R-low even (pos 65536 *ℤ k)) (R-high even (pos 65536 *ℤ k))

-- a bound of v in units is one of R(v)
bounded : (n : ℕ) (v r : ℤ) → (pos 65536 *ℤ r) ≤ℤ (v +ℤ pos 32768) → v ≤ℤ (pos 65536 *ℤ r +ℤ pos 32768) → Within (65536 * n) v → Within n r
bounded n v r = rw (known v, known r) (simp zs (omega arith))

pub R-within : (even : Bool) {n : ℕ} {v : ℤ} → Within (65536 * n) v → Within n (R even v)
R-within even {n} {v} h = bounded n v (R even v) (R-low even v) (R-high even v) h

-- of two numbers the lower has no greater R: at a tie R could only differ for v = w
rises : (r s v w : ℤ) → v <ℤ w → (pos 65536 *ℤ r) ≤ℤ (v +ℤ pos 32768) → w ≤ℤ (pos 65536 *ℤ s +ℤ pos 32768) → r ≤ℤ s
rises r s v w = rw (known r, known s, known v, known w) (simp diff (omega arith))

pub R-mono : (even : Bool) {v w : ℤ} → v ≤ℤ w → R even v ≤ℤ R even w
R-mono even {v} {w} h = go (lt_z v w) refl
  where
    go : (b : Bool) → lt_z v w ≡ b → R even v ≤ℤ R even w
    go true e = rises (R even v) (R even w) v w (omega ints) (R-low even v) (R-high even w)
    go false e = let q : v ≡ w = omega ints in subst (λ (u : ℤ). R even v ≤ℤ R even u) q (omega ints)

-- a gain of 0 moves nothing
pub R-none : (even : Bool) (e : ℤ) → R even (pos 0 *ℤ e) ≡ pos 0
R-none even e = rw (zero-*ℤ e) (R-whole even (pos 0))

-- ---- ties up: the greatest number not above (v + 32768)/65536
greatest : (r k v : ℤ) → v <ℤ (pos 65536 *ℤ r +ℤ pos 65536) → (pos 65536 *ℤ k) ≤ℤ v → k ≤ℤ r
greatest r k v = rw (known r, known k, known v) (simp diff (omega arith))

up-greatest : (v k : ℤ) → (pos 65536 *ℤ k) ≤ℤ (v +ℤ pos 32768) → k ≤ℤ R false v
unfolding R
up-greatest v k h = greatest (shr_z (v +ℤ pos 32768) 65536) k (v +ℤ pos 32768) (shr_high (v +ℤ pos 32768)) h

-- ---- ties to even
-- at a tie the shift alone gives the lower number k, and R adds to it what makes it even
shift-at : (k : ℤ) (c : ℕ) → c ≤ 65535 → shr_z (pos 65536 *ℤ k +ℤ pos c) 65536 ≡ k
shift-at k c h =
    only-shift (shr_z u 65536) k u (shr-low u) (shr_high u) (lo k c) (hi k c h)
  where
    u : ℤ
    u = pos 65536 *ℤ k +ℤ pos c

    lo : (k : ℤ) (c : ℕ) → (pos 65536 *ℤ k) ≤ℤ (pos 65536 *ℤ k +ℤ pos c)
    lo k c = rw (known k) (simp diff (omega arith))

    hi : (k : ℤ) (c : ℕ) → c ≤ 65535 → (pos 65536 *ℤ k +ℤ pos c) <ℤ (pos 65536 *ℤ k +ℤ pos 65536)
    hi k c = rw (known k) (simp diff (omega arith))

even-at : (k : ℤ) → R true (pos 65536 *ℤ k +ℤ pos 32768) ≡ k +ℤ pos (nat_abs k % 2)
unfolding R
even-at k =
    rw (shift-at k 32768 (omega arith)) (rw (again k (nat_abs k % 2) (omega arith)) (shift-at (k +ℤ pos (nat_abs k % 2)) (65535 - 65535 * (nat_abs k % 2)) (omega arith)))
  where
    again : (k : ℤ) (b : ℕ) → b ≤ 1 → pos 65536 *ℤ k +ℤ pos 32768 +ℤ pos (32767 + b) ≡ pos 65536 *ℤ (k +ℤ pos b) +ℤ pos (65535 - 65535 * b)
    again k b = rw (known k) (simp diff (omega arith))

parts : (x : ℤ) → nat_abs x ≡ up x + dn x
parts (pos n) = omega arith
parts (negsuc n) = omega arith

next-even : (k : ℤ) → Even (k +ℤ pos (nat_abs k % 2))
next-even k = omega (arith, parts k, parts (k +ℤ pos (nat_abs k % 2)), sum k (pos (nat_abs k % 2)))

pub R-even : (v k : ℤ) → Tie v k → Even (R true v)
R-even v k e = rw (e, even-at k) (next-even k)

-- two numbers nearest to v, the one below the other: v is in the middle, and they are not both even
module _ (v r s : ℤ) where
  middle : r <ℤ s → Nearest v r → Nearest v s → (v ≡ pos 65536 *ℤ r +ℤ pos 32768) × (s ≡ r +ℤ pos 1)
  middle l n k = (tie l n k, next l n k)
    where
      tie : r <ℤ s → Nearest v r → Nearest v s → v ≡ pos 65536 *ℤ r +ℤ pos 32768
      tie = rw (known v, known r, known s) (simp zs (omega arith))

      next : r <ℤ s → Nearest v r → Nearest v s → s ≡ r +ℤ pos 1
      next = rw (known v, known r, known s) (simp zs (omega arith))

not-both : (r : ℤ) → Even r → Even (r +ℤ pos 1) → ⊥
not-both r e f = omega (arith, parts r, parts (r +ℤ pos 1), sum r (pos 1))

R-only : (v r : ℤ) → Nearest v r → ((k : ℤ) → Tie v k → Even r) → r ≡ R true v
R-only v r n t = go (lt_z r (R true v)) (lt_z (R true v) r) refl refl
  where
    go : (a b : Bool) → lt_z r (R true v) ≡ a → lt_z (R true v) r ≡ b → r ≡ R true v
    go true b p q =
        let m = middle v r (R true v) (omega ints) n (R-error true v) in
        absurd (not-both r (t r m.0) (subst Even m.1 (R-even v r m.0)))
    go false true p q =
        let m = middle v (R true v) r (omega ints) (R-error true v) n in
        absurd (not-both (R true v) (R-even v (R true v) m.0) (subst Even m.1 (t (R true v) m.0)))
    go false false p q = omega ints

-- ---- a share
pub share-error : (even : Bool) (a : ℕ) (e : ℤ) → Nearest (pos a *ℤ e) (share even a e)
unfolding share
share-error even a e = R-error even (pos a *ℤ e)

-- of 0 it is 0
pub share-zero : (even : Bool) (a : ℕ) → share even a (pos 0) ≡ pos 0
unfolding share
share-zero even a = let e : a * 0 ≡ 0 = omega arith in rw e (R-whole even (pos 0))

-- a parameter of 1 gives the number, one of 0 gives 0
pub share-one : (even : Bool) (e : ℤ) → share even 65536 e ≡ e
unfolding share
share-one even e = R-whole even e

pub share-none : (even : Bool) (e : ℤ) → share even 0 e ≡ pos 0
unfolding share
share-none even e = R-none even e

-- a parameter is at most 1, so a bound is kept
pub share-within : (even : Bool) {a n : ℕ} {e : ℤ} → a ≤ 65536 → Within n e → Within n (share even a e)
unfolding share
share-within even h w = R-within even (within-mul h w)

-- of a natural number
pub share_nat-is : (even : Bool) (a x : ℕ) → share_nat even a x ≡ (a * x + added even (pos (a * x))) / 65536
unfolding R share added
share_nat-is false a x = refl
share_nat-is true a x = refl

pub rounding : Rounding
rounding =
    record {
      rounds = λ even. record { error = R-error even; whole = R-whole even; mono = λ v w h. R-mono even h; shrinks = λ a n x h w. share-within even h w };
      low = R-low false;
      greatest = up-greatest;
      even = R-even;
      only = R-only;
    }
