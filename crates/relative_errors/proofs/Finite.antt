-- Of an accepted answer each θ, each S and the answer itself are finite.
use mathlib.Core.Path.{◌≡◌, refl, sym, ap, ◌∙◌, subst}
use mathlib.Core.Logic.{◌⊎◌, inl, inr}
use mathlib.Core.Bool.{Bool, true, false, cond, ◌&&◌}
use mathlib.Core.List.{List, [], ◌∷◌}
use Prim.Native.Nat.{ℕ, zero, suc, ◌-◌, ◌≤◌, ◌<◌}
use native.Mathlib.Nat.{eq-or-lt_of_le, le_of_suc-le-suc}
use native.Mathlib.Omega.{arith}
use borrow.Author.Tests.{eqb-true}
use lib.Dec.{T, eqb}
use lib.ListN.{get_or}
use lib.Ieee.{Float, nan, binary64, of_bits}
use lib.Ieee.Scale.{finite}
use Rattle.integers.proofs.Snoc.{snoc-at}
use Rattle.integers.proofs.Tests.{both}
use Rattle.state.proofs.Tests.{then-zero, unless-zero}
use Rattle.state.specs.declared.State.{State}
use Rattle.relative_errors.specs.Relative.{squared_mean, squared_coefficient, sum_to, sums_finite, next_theta, thetas, thetas_finite, variance_of, all_finite, input_code, relative_code, relative_answer, relative_variance}
use Rattle.relative_errors.specs.Promises.{AcceptedIsFinite}
use Rattle.relative_errors.proofs.Floats.{no_nan}
use Rattle.relative_errors.proofs.Recursion.{thetas-length, sum-append}
use Rattle.std.specs.Prelude.{Ok}
use Rattle.state.specs.Rejections.{rejects}

truly : (b : Bool) → b ≡ true → T b
truly b e = subst T (sym e) tt

none : (c² : ℕ → Float) (θs : List Float) (h : ℕ) → finite (sum_to c² θs h 0) ≡ true
unfolding sum_to of_bits
none c² θs h = refl

sums-each : (c² : ℕ → Float) (θs : List Float) (h n j : ℕ) → sums_finite c² θs h n ≡ true → j ≤ n → finite (sum_to c² θs h j) ≡ true
unfolding sums_finite
sums-each c² θs h zero j e l = let z : j ≡ 0 = omega arith in ap (λ (x : ℕ). finite (sum_to c² θs h x)) z ∙ none c² θs h
sums-each c² θs h (suc n) j e l = go (eq-or-lt_of_le l) (sums-each c² θs h n j (both (sums_finite c² θs h n) _ e).0)
  where
    go : (j ≡ suc n) ⊎ (j < suc n) → (j ≤ n → finite (sum_to c² θs h j) ≡ true) → finite (sum_to c² θs h j) ≡ true
    go (inl same) before = rw same (both (sums_finite c² θs h n) _ e).1
    go (inr less) before = before (le_of_suc-le-suc less)

module _ (μ² c² : ℕ → Float) (σ² : Float) where
  abbrev θ-at : ℕ → Float
  θ-at n = next_theta μ² c² σ² (thetas μ² c² σ² n) n

  abbrev Each : ℕ → Type 0
  Each k = (sums_finite c² (thetas μ² c² σ² k) (suc k) k && finite (θ-at k)) ≡ true

  thetas-each : (h k : ℕ) → thetas_finite μ² c² σ² h ≡ true → k < h → Each k
  unfolding thetas_finite
  thetas-each zero k e l = absurd (omega arith)
  thetas-each (suc h) k e l = go (eq-or-lt_of_le (le_of_suc-le-suc l)) (thetas-each h k (both (thetas_finite μ² c² σ² h) _ e).0)
    where
      go : (k ≡ h) ⊎ (k < h) → (k < h → Each k) → Each k
      go (inl same) before = rw same (both (thetas_finite μ² c² σ² h) _ e).1
      go (inr less) before = before less

  -- the θ of a longer list are those of a shorter one
  theta-at : (h k : ℕ) → k < h → get_or (thetas μ² c² σ² h) k nan ≡ θ-at k
  unfolding thetas
  theta-at h k l = snoc-at (thetas μ² c² σ²) θ-at nan (λ n. refl) (thetas-length μ² c² σ²) h k l

  -- S of k reads only the θ before its own
  sum-longer : (h k j : ℕ) → k ≤ suc h → j < k → sum_to c² (thetas μ² c² σ² h) k j ≡ sum_to c² (thetas μ² c² σ² (k - 1)) k j
  unfolding thetas
  sum-longer zero k j l m = let z : k - 1 ≡ 0 = omega arith in rw z
  sum-longer (suc h) k j l m = go (eq-or-lt_of_le l) (sum-longer h k j)
    where
      go : (k ≡ suc (suc h)) ⊎ (k < suc (suc h)) → (k ≤ suc h → j < k → sum_to c² (thetas μ² c² σ² h) k j ≡ sum_to c² (thetas μ² c² σ² (k - 1)) k j)
          → sum_to c² (thetas μ² c² σ² (suc h)) k j ≡ sum_to c² (thetas μ² c² σ² (k - 1)) k j
      go (inl same) before = let z : k - 1 ≡ suc h = omega arith in rw z
      go (inr less) before =
          sum-append c² (thetas μ² c² σ² h) (θ-at h ∷ []) k (omega (arith, thetas-length μ² c² σ² h)) j m ∙ before (le_of_suc-le-suc less) m

by_code : (n : ℕ) (v x : Float) → relative_answer n v ≡ Ok x → (n ≡ 0) × (x ≡ v)
by_code n v x e = let f = go (eqb n 0) e in (eqb-true n 0 f.0, f.1)
  where
    go : (b : Bool) → cond b (Ok v) (rejects n) ≡ Ok x → (b ≡ true) × (x ≡ v)
    go true g = (refl, cc)
    go false g = let z : ◌≡◌ {A = ℕ} 0 1 = cc in absurd (omega arith)

all-finite : (s : State) (h bits room : ℕ) → relative_code s h bits room ≡ 0 → all_finite (squared_mean s) (squared_coefficient s) (of_bits binary64 bits) h ≡ true
unfolding relative_code
all-finite s h bits room z = unless-zero _ 18 (then-zero (input_code s h bits room) _ z).1

pub accepted-is-finite : AcceptedIsFinite
unfolding relative_variance all_finite
accepted-is-finite s h bits room x e =
    let σ² = of_bits binary64 bits in
    let μ² = squared_mean s in
    let c² = squared_coefficient s in
    let f = by_code (relative_code s h bits room) (variance_of μ² c² σ² h) x e in
    let all = both (thetas_finite μ² c² σ² h) (finite (variance_of μ² c² σ² h)) (all-finite s h bits room f.0) in
    let fine : finite x ≡ true = ap finite f.1 ∙ all.1 in
    let each : (k : ℕ) → k < h → (sums_finite c² (thetas μ² c² σ² k) (suc k) k ≡ true) × (finite (next_theta μ² c² σ² (thetas μ² c² σ² k) k) ≡ true)
    = λ k l. both (sums_finite c² (thetas μ² c² σ² k) (suc k) k) _ (thetas-each μ² c² σ² h k all.0 l) in
    record {
      is = f.1;
      answer = truly _ fine;
      no_nan = no_nan x fine;
      theta = λ k l m. truly _ (ap finite (theta-at μ² c² σ² h (k - 1) (omega arith)) ∙ (each (k - 1) (omega arith)).1);
      sum =
          λ k j l m.
          let z : suc (k - 1) ≡ k = omega arith in
          truly _ (ap finite (sum-longer μ² c² σ² h k j (omega arith) m) ∙ sums-each c² (thetas μ² c² σ² (k - 1)) k (k - 1) j (rw z at (each (k - 1) (omega arith)).0) (omega arith));
    }
