-- Laws of the doubles: the finite test, what is no NaN, and whole numbers that are doubles.
use mathlib.Core.Path.{◌≡◌, refl, sym, subst}
use mathlib.Core.Bool.{Bool, true, false, not, cond, beq, false≢true}
use Prim.Native.Nat.{ℕ, ◌*◌, ◌%◌, ◌≤◌, ◌<◌}
use native.Mathlib.Nat.{sub_self, le_refl, zero-lt-suc, mul-pos, zero-mul}
use native.Mathlib.Omega.{arith}
use borrow.Author.Tests.{le-ltb}
use lib.Dec.{T, eqb, le→leb, lt→ltb}
use lib.IntN.{ℤ, pos, negsuc, nat_abs}
use lib.Ieee.{Float, nan, inf, fin, binary64, down, up, unlike, neg, add, sub, mul, sum, round, eq, of_bits, is_nan, nan_bits, in_float}
use lib.Ieee.Bits.{nan_bits_above}
use lib.Ieee.Fits.{down_pos}
use lib.Ieee.Scale.{finite, round_same}
use Rattle.relative_errors.specs.Relative.{nought, one_bits}

-- ---- x − x is 0.0 where x is finite, and a NaN elsewhere
zero-round : (c : ℕ) → 0 < c → round binary64 false 0 c ≡ fin false 0 (pos 0)
unfolding round
zero-round c h = round_same binary64 false 0 c 0 1 h (zero-lt-suc 0) (sym (zero-mul c))

difference : (s : Bool) (a c : ℕ) → 0 < c → sum binary64 s a (not s) a c ≡ fin false 0 (pos 0)
unfolding sum
difference true a c h = rw (le-ltb a a (le_refl a), sub_self a) (zero-round c h)
difference false a c h = rw (le-ltb a a (le_refl a), sub_self a) (zero-round c h)

pub self-difference : (x : Float) → eq (sub binary64 x x) nought ≡ finite x
unfolding eq sub add neg of_bits
self-difference nan = refl
self-difference (inf true) = refl
self-difference (inf false) = refl
self-difference (fin s m e) = rw (difference s (m * up e * down e) (down e * down e) (mul-pos (down_pos e) (down_pos e)))

-- ---- a sum and a product of which a part is not finite are not
nor : (b : Bool) (s : Bool) → finite (cond b (inf s) nan) ≡ true → ⊥
nor true s e = false≢true e
nor false s e = false≢true e

nor-swapped : (b : Bool) (s : Bool) → finite (cond b nan (inf s)) ≡ true → ⊥
nor-swapped true s e = false≢true e
nor-swapped false s e = false≢true e

pub sum-parts : (x y : Float) → finite (add binary64 x y) ≡ true → (finite x ≡ true) × (finite y ≡ true)
unfolding add
sum-parts nan y e = absurd (false≢true e)
sum-parts (inf s) nan e = absurd (false≢true e)
sum-parts (inf s) (inf t) e = absurd (nor (beq s t) s e)
sum-parts (inf s) (fin t n d) e = absurd (false≢true e)
sum-parts (fin s m d) nan e = absurd (false≢true e)
sum-parts (fin s m d) (inf t) e = absurd (false≢true e)
sum-parts (fin s m d) (fin t n c) e = (refl, refl)

pub product-parts : (x y : Float) → finite (mul binary64 x y) ≡ true → (finite x ≡ true) × (finite y ≡ true)
unfolding mul
product-parts nan y e = absurd (false≢true e)
product-parts (inf s) nan e = absurd (false≢true e)
product-parts (inf s) (inf t) e = absurd (false≢true e)
product-parts (inf s) (fin t n d) e = absurd (nor-swapped (eqb n 0) (unlike s t) e)
product-parts (fin s m d) nan e = absurd (false≢true e)
product-parts (fin s m d) (inf t) e = absurd (nor-swapped (eqb m 0) (unlike s t) e)
product-parts (fin s m d) (fin t n c) e = (refl, refl)

-- what is finite is no NaN
pub no_nan : (x : Float) → finite x ≡ true → T (not (is_nan x))
unfolding is_nan
no_nan nan e = subst T (sym e) tt
no_nan (inf s) e = tt
no_nan (fin s m e) h = tt

-- σ² is none, by its bits
pub sigma2-real : (bits : ℕ) → bits ≤ one_bits → T (not (nan_bits binary64 bits))
sigma2-real bits h = rw (nan_bits_above binary64 bits, le-ltb 0x7ff0_0000_0000_0000 (bits % 0x8000_0000_0000_0000) (omega arith)) tt

-- a whole number up to 2^53 in size is a double
pub in-float : (z : ℤ) → nat_abs z ≤ 9007199254740992 → T (in_float binary64 z)
unfolding in_float
in-float (pos n) h = le→leb n 9007199254740992 h
in-float (negsuc n) h = lt→ltb n 9007199254740992 h
