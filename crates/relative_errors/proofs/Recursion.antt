-- Laws of the recursion: it reads no more of the θ, μ and c than it needs, and what the loops hold after a turn.
use mathlib.Core.Path.{◌≡◌, refl, sym, ap, ap₂, ◌∙◌}
use mathlib.Core.Bool.{Bool, true, false, ◌&&◌}
use mathlib.Core.List.{List, [], ◌∷◌, ◌++◌}
use Prim.Native.Nat.{ℕ, zero, suc, ◌-◌, ◌≤◌, ◌<◌}
use native.Mathlib.Numerals.{add-one}
use native.Mathlib.Omega.{arith}
use lib.IntN.{pos}
use lib.ListN.{length, get_or, take, drop, set, length-append, get_or-append}
use lib.Seq.{take_at}
use lib.Ieee.{Float, nan, binary64, add, mul}
use lib.Ieee.Scale.{finite}
use Rattle.integers.proofs.Snoc.{snoc-more}
use Rattle.integers.proofs.Tests.{and-false}
use Rattle.relative_errors.specs.Relative.{squared, theta_in, sum_to, sums_finite, next_theta, thetas, thetas_finite}
use Rattle.relative_errors.specs.Facts.{square_list}
use Rattle.relative_errors.proofs.Floats.{sum-parts, product-parts}

abbrev both : Bool → Bool → Bool
both a b = a && b

-- ---- lists

pub squares-length : (ns : List ℕ) (n : ℕ) → length (square_list ns n) ≡ n
unfolding square_list
squares-length ns zero = refl
squares-length ns (suc n) = rw (length-append, squares-length ns n, add-one)

-- one more square is written
pub squares-more : (ns : List ℕ) (cells : List Float) (i : ℕ) → i < length cells
    → set (square_list ns i ++ drop i cells) i (squared (pos (get_or ns i 0))) ≡ square_list ns (suc i) ++ drop (suc i) cells
unfolding square_list
squares-more ns cells i h = snoc-more (square_list ns) (λ (n : ℕ). squared (pos (get_or ns n 0))) nan (λ n. refl) (squares-length ns) i cells h

pub first-set : (xs : List Float) (v : Float) → 0 < length xs → set xs 0 v ≡ v ∷ drop 1 (set xs 0 v)
first-set [] v h = absurd (omega arith)
first-set (x ∷ xs) v h = refl

-- ---- what stands after the θ of 1 to h − 1 does not matter to S of h
module _ (c² : ℕ → Float) (θs rest : List Float) (h : ℕ) (size : h ≤ suc (length θs)) where
  pub sum-append : (j : ℕ) → j < h → sum_to c² (θs ++ rest) h j ≡ sum_to c² θs h j
  unfolding sum_to
  sum-append zero l = refl
  sum-append (suc j) l = rw (sum-append j (omega arith), get_or-append θs rest nan (h - suc j - 1) (omega arith))

module _ (μ² c² : ℕ → Float) (σ² : Float) where
  pub thetas-length : (n : ℕ) → length (thetas μ² c² σ² n) ≡ n
  unfolding thetas
  thetas-length zero = refl
  thetas-length (suc n) = rw (length-append, thetas-length n, add-one)

  next-append : (θs rest : List Float) (n : ℕ) → length θs ≡ n → next_theta μ² c² σ² (θs ++ rest) n ≡ next_theta μ² c² σ² θs n
  unfolding next_theta
  next-append θs rest zero h = refl
  next-append θs rest (suc n) h = rw (sum-append c² θs rest (suc (suc n)) (omega arith) (suc n) (omega arith))

  -- the θ after the first
  pub later : (θs : List Float) (n : ℕ) → 0 < n → next_theta μ² c² σ² θs n ≡ add binary64 (μ² (suc n)) (mul binary64 σ² (sum_to c² θs (suc n) n))
  unfolding next_theta
  later θs zero h = absurd (omega arith)
  later θs (suc n) h = refl

  -- one more θ is written
  theta-more : (cells : List Float) (i : ℕ) → i < length cells
      → set (thetas μ² c² σ² i ++ drop i cells) i (next_theta μ² c² σ² (thetas μ² c² σ² i) i) ≡ thetas μ² c² σ² (suc i) ++ drop (suc i) cells
  unfolding thetas
  theta-more cells i h = snoc-more (thetas μ² c² σ²) (λ (n : ℕ). next_theta μ² c² σ² (thetas μ² c² σ² n) n) nan (λ n. refl) thetas-length i cells h

-- ---- where θ is finite, its S is, up to each j
sums-finite : (c² : ℕ → Float) (θs : List Float) (h j : ℕ) → finite (sum_to c² θs h j) ≡ true → sums_finite c² θs h j ≡ true
unfolding sum_to sums_finite
sums-finite c² θs h zero e = refl
sums-finite c² θs h (suc j) e = rw (sums-finite c² θs h j (sum-parts _ _ e).0, e)

sums-implied : (μ² c² : ℕ → Float) (σ² : Float) (θs : List Float) (n : ℕ) → finite (next_theta μ² c² σ² θs n) ≡ true → sums_finite c² θs (suc n) n ≡ true
unfolding next_theta sums_finite
sums-implied μ² c² σ² θs zero e = refl
sums-implied μ² c² σ² θs (suc n) e = sums-finite c² θs (suc (suc n)) (suc n) (product-parts σ² _ (sum-parts _ _ e).1).1

-- ---- a turn of the loop over the θ, by what stands in `own`
module _ (μ² c² : ℕ → Float) (σ² : Float) (own cells : List Float) (i : ℕ) (owns : own ≡ thetas μ² c² σ² i ++ drop i cells) where
  abbrev θs : List Float
  θs = thetas μ² c² σ² i

  next_here : next_theta μ² c² σ² own i ≡ next_theta μ² c² σ² θs i
  next_here = ap (λ (l : List Float). next_theta μ² c² σ² l i) owns ∙ next-append μ² c² σ² θs (drop i cells) i (thetas-length μ² c² σ² i)

  pub turn-list : (v : Float) → v ≡ next_theta μ² c² σ² own i → i < length cells → set own i v ≡ thetas μ² c² σ² (suc i) ++ drop (suc i) cells
  turn-list v e h = ap₂ (λ (l : List Float) (x : Float). set l i x) owns (e ∙ next_here) ∙ theta-more μ² c² σ² cells i h

  pub turn-finite : (ok fine : Bool) (v : Float) → ok ≡ thetas_finite μ² c² σ² i → v ≡ next_theta μ² c² σ² own i → fine ≡ finite v → (ok && fine) ≡ thetas_finite μ² c² σ² (suc i)
  unfolding thetas_finite
  turn-finite ok fine v e f g =
      ap₂ both e (g ∙ ap finite (f ∙ next_here) ∙ θ-alone (finite (next_theta μ² c² σ² θs i)) refl)
    where
      -- the test of θ tests its S too
      θ-alone : (b : Bool) → finite (next_theta μ² c² σ² θs i) ≡ b → b ≡ (sums_finite c² θs (suc i) i && b)
      θ-alone true q = rw (sums-implied μ² c² σ² θs i q)
      θ-alone false q = sym (and-false (sums_finite c² θs (suc i) i))

-- ---- what stands in `own` once the θ are written
module _ (θs own rest : List Float) (h : ℕ) (long : length θs ≡ h) (owns : own ≡ θs ++ rest) where
  pub own_first : take h own ≡ θs
  own_first = rw owns (take_at θs rest h long)

  pub own-last : 0 < h → get_or own (h - 1) nan ≡ theta_in θs h
  own-last k = rw owns (get_or-append θs rest nan (h - 1) (omega (arith, long)))

-- ---- the recursion up to h reads μ and c of 1 to h
module _ (c² d² : ℕ → Float) (n : ℕ) (same : (j : ℕ) → 1 ≤ j → j ≤ n → c² j ≡ d² j) where
  sum_same : (θs : List Float) (h j : ℕ) → j ≤ n → sum_to c² θs h j ≡ sum_to d² θs h j
  unfolding sum_to
  sum_same θs h zero l = refl
  sum_same θs h (suc j) l = ap₂ (λ (a b : Float). add binary64 a (mul binary64 b (theta_in θs (h - suc j)))) (sum_same θs h j (omega arith)) (same (suc j) (omega arith) l)

  sums_same : (θs : List Float) (h j : ℕ) → j ≤ n → sums_finite c² θs h j ≡ sums_finite d² θs h j
  unfolding sums_finite
  sums_same θs h zero l = refl
  sums_same θs h (suc j) l = ap₂ both (sums_same θs h j (omega arith)) (ap finite (sum_same θs h (suc j) l))

  module _ (μ² ν² : ℕ → Float) (σ² : Float) (means : (k : ℕ) → 1 ≤ k → k ≤ n → μ² k ≡ ν² k) where
    next-same : (θs : List Float) (k : ℕ) → k < n → next_theta μ² c² σ² θs k ≡ next_theta ν² d² σ² θs k
    unfolding next_theta
    next-same θs zero l = means 1 (omega arith) (omega arith)
    next-same θs (suc k) l = ap₂ (λ (a b : Float). add binary64 a (mul binary64 σ² b)) (means (suc (suc k)) (omega arith) (omega arith)) (sum_same θs (suc (suc k)) (suc k) (omega arith))

    pub thetas-same : (k : ℕ) → k ≤ n → thetas μ² c² σ² k ≡ thetas ν² d² σ² k
    unfolding thetas
    thetas-same zero l = refl
    thetas-same (suc k) l = rw (thetas-same k (omega arith), next-same (thetas ν² d² σ² k) k l)

    pub finite-same : (k : ℕ) → k ≤ n → thetas_finite μ² c² σ² k ≡ thetas_finite ν² d² σ² k
    unfolding thetas_finite
    finite-same zero l = refl
    finite-same (suc k) l =
        rw (finite-same k (omega arith), thetas-same k (omega arith), next-same (thetas ν² d² σ² k) k l, sums_same (thetas ν² d² σ² k) (suc k) k (omega arith))
