-- Laws of tests: a choice, two of them, and one of each number below another.
use Prim.Native.Nat.{ℕ, zero, suc, ◌+◌, ◌<◌}
use mathlib.Core.Path.{◌≡◌, refl, sym, subst}
use mathlib.Core.Logic.{⊎_elim}
use mathlib.Core.Bool.{Bool, true, false, cond, ◌&&◌, false≢true}
use native.Mathlib.Omega.{arith}
use native.Mathlib.Nat.{le_of_suc-le-suc, eq-or-lt_of_le, not-suc-le-zero}
use native.Mathlib.Numerals.{add-one}
use Rattle.integers.specs.Below.{all_below}

-- a choice by its two cases
pub cond-elim : {A : Type 0} (P : A → Type 0) (b : Bool) (p q : A) → (b ≡ true → P p) → (b ≡ false → P q) → P (cond b p q)
cond-elim P true p q h k = h refl
cond-elim P false p q h k = k refl

-- both of two tests
pub both : (a b : Bool) → (a && b) ≡ true → (a ≡ true) × (b ≡ true)
both true b e = (refl, e)
both false b e = absurd (false≢true e)

pub and-false : (a : Bool) → (a && false) ≡ false
and-false true = refl
and-false false = refl

-- a test of each number below n: one number more, one of them, and all from each
pub all_below-step : (n : ℕ) (f : ℕ → Bool) → all_below (n + 1) f ≡ (all_below n f && f n)
unfolding all_below
all_below-step n f = rw add-one

pub all_below-at : (n : ℕ) (f : ℕ → Bool) → all_below n f ≡ true → (k : ℕ) → k < n → f k ≡ true
unfolding all_below
all_below-at zero f h k l = absurd (not-suc-le-zero l)
all_below-at (suc n) f h k l =
    let t = both (all_below n f) (f n) h in
    ⊎_elim (λ e. subst (λ (j : ℕ). f j ≡ true) (sym e) t.1) (λ lt. all_below-at n f t.0 k lt) (eq-or-lt_of_le (le_of_suc-le-suc l))

pub all_below-all : (n : ℕ) (f : ℕ → Bool) → ((k : ℕ) → k < n → f k ≡ true) → all_below n f ≡ true
unfolding all_below
all_below-all zero f h = refl
all_below-all (suc n) f h = rw (all_below-all n f (λ k l. h k (omega arith)), h n (omega arith))
