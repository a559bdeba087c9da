-- A list that grows by one at its end, as a loop fills the first places of a slice: what stands at each place, and one more stored.
use Prim.Native.Nat.{ℕ, zero, suc, ◌<◌}
use mathlib.Core.Path.{◌≡◌, sym, ap, ◌∙◌}
use mathlib.Core.Logic.{◌⊎◌, inl, inr}
use mathlib.Core.List.{List, [], ◌∷◌, ◌++◌}
use native.Mathlib.Nat.{eq-or-lt_of_le, le_of_suc-le-suc}
use native.Mathlib.Omega.{arith}
use lib.ListN.{length, get_or, set, drop, get_or-append}
use lib.Seq.{get_or_at, drop-cons, set_at, append_snoc}

module _ {A : Type 0} (L : ℕ → List A) (f : ℕ → A) (d : A) (step : (n : ℕ) → L (suc n) ≡ L n ++ (f n ∷ [])) (size : (n : ℕ) → length (L n) ≡ n) where
  pub snoc-at : (h i : ℕ) → i < h → get_or (L h) i d ≡ f i
  snoc-at zero i l = absurd (omega arith)
  snoc-at (suc h) i l = ap (λ (x : List A). get_or x i d) (step h) ∙ go (eq-or-lt_of_le (le_of_suc-le-suc l)) (snoc-at h i)
    where
      go : (i ≡ h) ⊎ (i < h) → (i < h → get_or (L h) i d ≡ f i) → get_or (L h ++ (f h ∷ [])) i d ≡ f i
      go (inl same) before = rw same (get_or_at (L h) (f h) [] d h (size h))
      go (inr less) before = get_or-append (L h) (f h ∷ []) d i (omega (arith, size h)) ∙ before less

  pub snoc-more : (i : ℕ) (cells : List A) → i < length cells → set (L i ++ drop i cells) i (f i) ≡ L (suc i) ++ drop (suc i) cells
  snoc-more i cells h =
      rw (drop-cons cells i d h)
      (set_at (L i) (get_or cells i d) (drop (suc i) cells) (f i) i (size i)
      ∙ sym (append_snoc (L i) (f i) (drop (suc i) cells))
      ∙ ap (λ (x : List A). x ++ drop (suc i) cells) (sym (step i)))
