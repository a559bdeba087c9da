-- A toolkit for ℤ over omega, which reads ℕ alone. Each integer is a difference of two naturals, `up x − dn x`, and `p ⊖ n` is p − n, shut.
-- Two recipes:
--   1. A law over variables:      law x y = rw (known x, known y) (simp diff (omega arith))
--      `rw` names the unknowns, `simp diff` turns each statement over ℤ (≡, ≤ℤ, <ℤ, SFits w; of +ℤ -ℤ neg_ℤ *ℤ pos negsuc) into one over ℕ, and omega closes that.
--      The premises are left in the goal (bind no `h`); to multiply one, `simp diff (λ h. omega (arith, mul-le-mul_left a h))`. With `Within` use the set `zs` of `Bounds`.
--      Its bound is omega's, 64 monomials: good for any number of products with one signed factor, and for two or three signed factors. Past that: one law for each part of a sum, products
--      folded into variables.
--   2. In place, at a need:       omega (ints, sum x y, minus x y, scaled a x, fits-range c.fits.x)
--      `ints` reads the facts in reach and in the fields of records: ≤ℤ, <ℤ, ≡ at ℤ, what `if` leaves (le_z, lt_z ≡ true, false), and SFits w x, from which it has
--      that `to_z w (of_z w x)` is x. It proves ≤ℤ, <ℤ, ≡ at ℤ, SFits w x, T (non_neg x), le_z/lt_z x y ≡ true/false, and records and pairs of these. A sum, a difference or a product in a
--      statement is an unknown, until its law is listed.
use mathlib.Core.Path.{◌≡◌, refl, sym, ap, ◌∙◌, subst}
use mathlib.Core.Logic.{◌↔◌}
use mathlib.Core.Bool.{Bool, true, false, not, cond}
use Prim.Native.Nat.{ℕ, zero, suc, ◌+◌, ◌*◌, ◌-◌, ◌^◌, ◌≤◌, ◌<◌, max}
use native.Mathlib.Omega.{arith}
use lib.Dec.{T, ltb, ltb→lt, nltb→le, leb→le, le→leb, lt→ltb}
use lib.IntN.{ℤ, pos, negsuc, neg_ℤ, sub_ℕ, ◌+ℤ◌, ◌-ℤ◌, ◌*ℤ◌}
use lib.Signed.{le_z, lt_z, ◌≤ℤ◌, ◌<ℤ◌, mag, shr_z, mag_shr, non_neg}
use mir.Syntax.{Width}
use mir.Val.{SFits, to_z, of_z, hbits}
use mir.ValLaws.{to_z-of_z, sfits_le}

infixl 6 ◌⊖◌
pub ◌⊖◌ : ℕ → ℕ → ℤ
p ⊖ n = sub_ℕ p n

-- the two naturals whose difference an integer is
abbrev pub up : ℤ → ℕ
up (pos n) = n
up (negsuc n) = 0

abbrev pub dn : ℤ → ℕ
dn (pos n) = 0
dn (negsuc n) = suc n

-- the one law of `⊖`
by-test : (p n : ℕ) (b : Bool) → (T b → p < n) → (T (not b) → n ≤ p) → up (cond b (negsuc (n - suc p)) (pos (p - n))) + n ≡ dn (cond b (negsuc (n - suc p)) (pos (p - n))) + p
by-test p n true f g = let h : p < n = f tt in omega arith
by-test p n false f g = let h : n ≤ p = g tt in omega arith

split : (p n : ℕ) → up (p ⊖ n) + n ≡ dn (p ⊖ n) + p
unfolding ◌⊖◌
split p n = by-test p n (ltb p n) (ltb→lt p n) (nltb→le p n)

-- an integer is known by its difference
ext : (x y : ℤ) → up x + dn y ≡ up y + dn x → x ≡ y
ext (pos a) (pos b) e = ap pos (omega arith)
ext (pos a) (negsuc b) e = absurd (omega arith)
ext (negsuc a) (pos b) e = absurd (omega arith)
ext (negsuc a) (negsuc b) e = ap negsuc (omega arith)

pub known : (x : ℤ) → x ≡ up x ⊖ dn x
known x = ext x (up x ⊖ dn x) (let s = split (up x) (dn x) in omega arith)

-- ---- the operations, by their parts
pub up_neg : (x : ℤ) → up (neg_ℤ x) ≡ dn x
up_neg (pos zero) = refl
up_neg (pos (suc n)) = refl
up_neg (negsuc n) = refl

pub dn-neg : (x : ℤ) → dn (neg_ℤ x) ≡ up x
dn-neg (pos zero) = refl
dn-neg (pos (suc n)) = refl
dn-neg (negsuc n) = refl

pub sum : (x y : ℤ) → up (x +ℤ y) + (dn x + dn y) ≡ dn (x +ℤ y) + (up x + up y)
unfolding ◌⊖◌
sum (pos a) (pos b) = omega arith
sum (pos a) (negsuc b) = let s = split a (suc b) in omega arith
sum (negsuc a) (pos b) = let s = split b (suc a) in omega arith
sum (negsuc a) (negsuc b) = omega arith

pub product : (x y : ℤ) → up (x *ℤ y) + (up x * dn y + dn x * up y) ≡ dn (x *ℤ y) + (up x * up y + dn x * dn y)
product (pos a) (pos b) = omega arith
product (pos a) (negsuc b) = omega (arith, up_neg (pos (a * suc b)), dn-neg (pos (a * suc b)))
product (negsuc a) (pos b) = omega (arith, up_neg (pos (suc a * b)), dn-neg (pos (suc a * b)))
product (negsuc a) (negsuc b) = omega arith

pub minus : (x y : ℤ) → up (x -ℤ y) + (dn x + up y) ≡ dn (x -ℤ y) + (up x + dn y)
minus x y = omega (arith, sum x (neg_ℤ y), up_neg y, dn-neg y)

pub scaled : (a : ℕ) (x : ℤ) → up (pos a *ℤ x) + a * dn x ≡ dn (pos a *ℤ x) + a * up x
scaled a x = omega (arith, product (pos a) x)

le_parts : (x y : ℤ) → T (le_z x y) → up x + dn y ≤ up y + dn x
le_parts (pos a) (pos b) t = let h = leb→le a b t in omega arith
le_parts (pos a) (negsuc b) t = absurd t
le_parts (negsuc a) (pos b) t = omega arith
le_parts (negsuc a) (negsuc b) t = let h = leb→le b a t in omega arith

parts-le : (x y : ℤ) → up x + dn y ≤ up y + dn x → T (le_z x y)
parts-le (pos a) (pos b) h = le→leb a b (omega arith)
parts-le (pos a) (negsuc b) h = absurd (omega arith)
parts-le (negsuc a) (pos b) h = tt
parts-le (negsuc a) (negsuc b) h = le→leb b a (omega arith)

lt-parts : (x y : ℤ) → T (lt_z x y) → up x + dn y < up y + dn x
lt-parts (pos a) (pos b) t = let h = ltb→lt a b t in omega arith
lt-parts (pos a) (negsuc b) t = absurd t
lt-parts (negsuc a) (pos b) t = omega arith
lt-parts (negsuc a) (negsuc b) t = let h = ltb→lt b a t in omega arith

parts-lt : (x y : ℤ) → up x + dn y < up y + dn x → T (lt_z x y)
parts-lt (pos a) (pos b) h = lt→ltb a b (omega arith)
parts-lt (pos a) (negsuc b) h = absurd (omega arith)
parts-lt (negsuc a) (pos b) h = tt
parts-lt (negsuc a) (negsuc b) h = lt→ltb b a (omega arith)

-- ---- the laws that `simp diff` goes by
pub ⊖-pos : (n : ℕ) → pos n ≡ n ⊖ 0
⊖-pos n = ext (pos n) (n ⊖ 0) (let s = split n 0 in omega arith)

pub ⊖-negsuc : (n : ℕ) → negsuc n ≡ 0 ⊖ suc n
⊖-negsuc n = ext (negsuc n) (0 ⊖ suc n) (let s = split 0 (suc n) in omega arith)

pub ⊖-neg : (p n : ℕ) → neg_ℤ (p ⊖ n) ≡ n ⊖ p
⊖-neg p n = ext (neg_ℤ (p ⊖ n)) (n ⊖ p) (omega (arith, split p n, split n p, up_neg (p ⊖ n), dn-neg (p ⊖ n)))

-- (`neg_ℤ (pos n)` at a variable n shows no `pos n`, so it has a law of its own)
pub ⊖-neg-pos : (n : ℕ) → neg_ℤ (pos n) ≡ 0 ⊖ n
⊖-neg-pos n = ap neg_ℤ (⊖-pos n) ∙ ⊖-neg n 0

pub ⊖-add : (p n q m : ℕ) → (p ⊖ n) +ℤ (q ⊖ m) ≡ (p + q) ⊖ (n + m)
⊖-add p n q m = ext ((p ⊖ n) +ℤ (q ⊖ m)) ((p + q) ⊖ (n + m)) (omega (arith, split p n, split q m, split (p + q) (n + m), sum (p ⊖ n) (q ⊖ m)))

cross : (P N Q M p n q m : ℕ) → P + n ≡ N + p → Q + m ≡ M + q → P * M + N * Q + (p * q + n * m) ≡ P * Q + N * M + (p * m + n * q)
cross P N Q M p n q m e f = omega (arith, ap (λ (k : ℕ). k * Q) e, ap (λ (k : ℕ). k * M) e, ap (λ (k : ℕ). k * p) f, ap (λ (k : ℕ). k * n) f)

pub ⊖-mul : (p n q m : ℕ) → (p ⊖ n) *ℤ (q ⊖ m) ≡ (p * q + n * m) ⊖ (p * m + n * q)
⊖-mul p n q m = ext ((p ⊖ n) *ℤ (q ⊖ m)) ((p * q + n * m) ⊖ (p * m + n * q)) (omega (arith, split (p * q + n * m) (p * m + n * q), product (p ⊖ n) (q ⊖ m), cross (up (p ⊖ n)) (dn (p ⊖ n)) (up (q ⊖ m)) (dn (q ⊖ m)) p n q m (split p n) (split q m)))

-- by a natural number: two monomials for four
pub ⊖-scale : (a q m : ℕ) → (a ⊖ 0) *ℤ (q ⊖ m) ≡ (a * q) ⊖ (a * m)
⊖-scale a q m = ⊖-mul a 0 q m ∙ ap (λ (t : ℕ). t ⊖ (a * m + 0 * q)) (l a q m) ∙ ap (λ (t : ℕ). (a * q) ⊖ t) (r a q m)
  where
    l : (a q m : ℕ) → a * q + 0 * m ≡ a * q
    l a q m = omega arith

    r : (a q m : ℕ) → a * m + 0 * q ≡ a * m
    r a q m = omega arith

pub ⊖-le : (p n q m : ℕ) → ((p ⊖ n) ≤ℤ (q ⊖ m)) ↔ (p + m ≤ q + n)
⊖-le p n q m = ((λ h. omega (arith, split p n, split q m, le_parts (p ⊖ n) (q ⊖ m) h.le)), (λ h. record { le = parts-le (p ⊖ n) (q ⊖ m) (omega (arith, split p n, split q m)) }))

pub ⊖-lt : (p n q m : ℕ) → ((p ⊖ n) <ℤ (q ⊖ m)) ↔ (p + m < q + n)
⊖-lt p n q m = ((λ h. omega (arith, split p n, split q m, lt-parts (p ⊖ n) (q ⊖ m) h.lt)), (λ h. record { lt = parts-lt (p ⊖ n) (q ⊖ m) (omega (arith, split p n, split q m)) }))

pub ⊖-eq : (p n q m : ℕ) → ((p ⊖ n) ≡ (q ⊖ m)) ↔ (p + m ≡ q + n)
⊖-eq p n q m = ((λ e. omega (arith, split p n, split q m, ap up e, ap dn e)), (λ h. ext (p ⊖ n) (q ⊖ m) (omega (arith, split p n, split q m))))

-- ---- rules for `omega ints`: a fact of ℤ in reach counts as one of `up` and `dn`, and a goal of ℤ is turned into one
pub le_out : {x y : ℤ} → x ≤ℤ y → up x + dn y ≤ up y + dn x
le_out {x} {y} h = le_parts x y h.le

pub lt_out : {x y : ℤ} → x <ℤ y → up x + dn y < up y + dn x
lt_out {x} {y} h = lt-parts x y h.lt

pub eq-out : {x y : ℤ} → x ≡ y → up x + dn y ≡ up y + dn x
eq-out {x} {y} e = subst (λ (z : ℤ). up x + dn z ≡ up z + dn x) e refl

pub le_in : {x y : ℤ} → up x + dn y ≤ up y + dn x → x ≤ℤ y
le_in {x} {y} h = record { le = parts-le x y h }

pub lt_in : {x y : ℤ} → up x + dn y < up y + dn x → x <ℤ y
lt_in {x} {y} h = record { lt = parts-lt x y h }

pub eq-in : {x y : ℤ} → up x + dn y ≡ up y + dn x → x ≡ y
eq-in {x} {y} e = ext x y e

-- what a test leaves
pub le_z-true : (x y : ℤ) → le_z x y ≡ true → up x + dn y ≤ up y + dn x
le_z-true x y e = le_parts x y (subst T (sym e) tt)

pub lt_z-true : (x y : ℤ) → lt_z x y ≡ true → up x + dn y < up y + dn x
lt_z-true x y e = lt-parts x y (subst T (sym e) tt)

pub le_z-false : (x y : ℤ) → le_z x y ≡ false → up y + dn x < up x + dn y
le_z-false x y e =
    let f : up x + dn y ≤ up y + dn x → ⊥ = λ h. subst T e (parts-le x y h) in
    omega arith

pub lt_z-false : (x y : ℤ) → lt_z x y ≡ false → up y + dn x ≤ up x + dn y
lt_z-false x y e =
    let f : up x + dn y < up y + dn x → ⊥ = λ h. subst T e (parts-lt x y h) in
    omega arith

-- a number that fits a width, and what the machine reads back from its bits
pub fits-high : {w : Width} {z : ℤ} → SFits w z → up z < 2 ^ hbits w + dn z
fits-high {w} {z = pos n} f = let h = f.sfits in omega arith
fits-high {w} {z = negsuc n} f = let h = f.sfits in omega arith

pub fits_low : {w : Width} {z : ℤ} → SFits w z → dn z ≤ 2 ^ hbits w + up z
fits_low {w} {z = pos n} f = let h = f.sfits in omega arith
fits_low {w} {z = negsuc n} f = let h = f.sfits in omega arith

pub fits-back : {w : Width} {z : ℤ} → SFits w z → up (to_z w (of_z w z)) + dn z ≡ up z + dn (to_z w (of_z w z))
fits-back {w} {z} f = eq-out (to_z-of_z w z f)

pub fits_by : {w : Width} (z : ℤ) → up z < 2 ^ hbits w + dn z → dn z ≤ 2 ^ hbits w + up z → SFits w z
fits_by {w} (pos n) h k = record { sfits = omega arith }
fits_by {w} (negsuc n) h k = record { sfits = omega arith }

pub fits_in : {w : Width} {z : ℤ} → max (suc (up z) - dn z) (dn z - up z) ≤ 2 ^ hbits w → SFits w z
fits_in {w} {z} h = fits_by z (omega arith) (omega arith)

pub ⊖-fits : (w : Width) (p n : ℕ) → SFits w (p ⊖ n) ↔ ((p < 2 ^ hbits w + n) × (n ≤ 2 ^ hbits w + p))
⊖-fits w p n = (
  (λ f. (omega (arith, split p n, fits-high f), omega (arith, split p n, fits_low f))),
  (λ h. fits_by (p ⊖ n) (omega (arith, split p n)) (omega (arith, split p n))),
)

-- the bounds, as a pair for omega's list: `omega (ints, fits-range c.fits.x)`
pub fits-range : {w : Width} {z : ℤ} → SFits w z → (up z < 2 ^ hbits w + dn z) × (dn z ≤ 2 ^ hbits w + up z)
fits-range f = (fits-high f, fits_low f)

-- a shift to the right keeps a number in its width
pub fits-shr : {w : Width} {z : ℤ} (m : ℕ) → SFits w z → SFits w (shr_z z m)
fits-shr {w} {z} m f = sfits_le (mag_shr z m) f

-- what is read back of a call's signed result: `back w64 c.f.result c.f.ok`
pub back : (w : Width) (z : ℤ) → mag z < 2 ^ hbits w → to_z w (of_z w z) ≡ z
back w z h = to_z-of_z w z (record { sfits = h })

-- what a call of a test told of a number: `told f (to_z-of_z ..) c.t.ensures c.if1.taken`
pub told : {x z : ℤ} {r b : Bool} (f : ℤ → Bool) → x ≡ z → r ≡ f x → r ≡ b → f z ≡ b
told f e q h = sym (q ∙ ap f e) ∙ h

-- ---- casts to an unsigned type ask `T (non_neg z)` and a bound on `nat_abs z`
pub nonneg-in : (z : ℤ) → dn z ≤ up z → T (non_neg z)
nonneg-in (pos n) h = tt
nonneg-in (negsuc n) h = absurd (omega arith)

-- ---- a test's answer, as a goal
to-true : (b : Bool) → T b → b ≡ true
to-true true t = refl
to-true false t = absurd t

to-false : (b : Bool) → (T b → ⊥) → b ≡ false
to-false true f = absurd (f tt)
to-false false f = refl

pub le_z-is : (x y : ℤ) → up x + dn y ≤ up y + dn x → le_z x y ≡ true
le_z-is x y h = to-true (le_z x y) (parts-le x y h)

pub le_z-not : (x y : ℤ) → up y + dn x < up x + dn y → le_z x y ≡ false
le_z-not x y h = to-false (le_z x y) (λ t. let k = le_parts x y t in omega arith)

pub lt_z-is : (x y : ℤ) → up x + dn y < up y + dn x → lt_z x y ≡ true
lt_z-is x y h = to-true (lt_z x y) (parts-lt x y h)

pub lt_z-not : (x y : ℤ) → up y + dn x ≤ up x + dn y → lt_z x y ≡ false
lt_z-not x y h = to-false (lt_z x y) (λ t. let k = lt-parts x y t in omega arith)

-- ---- the two sets
pub ruleset diff = (⊖-neg-pos, ⊖-pos, ⊖-negsuc, ⊖-neg, ⊖-add, ⊖-scale, ⊖-mul, ⊖-le, ⊖-lt, ⊖-eq, ⊖-fits)

pub ruleset ints = (arith, le_out, lt_out, eq-out, le_z-true, le_z-false, lt_z-true, lt_z-false, fits-back, le_in, lt_in, eq-in, fits_in, nonneg-in, le_z-is, le_z-not, lt_z-is, lt_z-not)
