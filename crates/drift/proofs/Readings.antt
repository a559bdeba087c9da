-- What one accepted reading does to the errors of a state against the exact recursion.
use mathlib.Core.Path.{◌≡◌, refl, sym, ◌∙◌, ap}
use mathlib.Core.Bool.{Bool, true, false, cond}
use mathlib.Core.Logic.{◌≢◌}
use mathlib.Core.List.{List}
use Prim.Native.Nat.{ℕ, suc, ◌+◌, ◌*◌, ◌^◌, ◌<◌}
use native.Mathlib.Nat.{pow-succ'}
use native.Mathlib.Omega.{arith}
use lib.IntN.{ℤ, pos, ◌+ℤ◌, ◌-ℤ◌, ◌*ℤ◌, zero-*ℤ}
use lib.ListN.{length, get_or, set}
use lib.Seq.{get_or-set_same, get_or-set_other}
use borrow.Author.Tests.{eq-eqb, ne_eqb}
use Rattle.integers.proofs.Difference.{diff, known, up, dn, sum, scaled}
use Rattle.state.specs.Fixed.{share}
use Rattle.models.specs.Models.{has_trend, has_season, ties_to_even}
use Rattle.state.specs.declared.Score.{Score}
use Rattle.state.specs.declared.State.{State}
use Rattle.state.proofs.Rounding.{share-none}
use Rattle.ets.specs.Steps.{terms_of, damped_trend, season_by, season_due, residual_of, new_level, new_season, seasonal_by, corrected, after_reading, residual}
use Rattle.drift.proofs.Averages.{D, neg_d, mix, zero_d, Same, scale_d, StepBelow}
use Rattle.drift.proofs.Cycles.{negs}
use Rattle.drift.proofs.Errors.{parts, add_d, err, Both, residual-error, corrected-both}
use Rattle.drift.specs.Exact.{Parameters, Exact, parameters_of, exponent, exact_damped, exact_reading, exact_residual_by, exact_residual, exact_season_by, adjusted}

abbrev pub power : Exact → ℕ
power x = 65536 ^ (2 * x.n)

-- the season value at a place, 0 without season
abbrev pub value_at : State → ℕ → ℤ
value_at s k = cond (has_season s.model) (get_or s.seasonal k (pos 0)) (pos 0)

abbrev pub level_err : State → Exact → D
level_err s x = err (power x) (parts s.level) (parts x.L)

-- of a season value, with the sign turned
abbrev pub season_err : State → Exact → ℕ → D
season_err s x k = neg_d (err (power x) (parts (value_at s k)) (parts (x.S k)))

-- ---- by cases on the season, which is b
stored_here : (b : Bool) (cells : List ℤ) (p : ℕ) (v : ℤ) → p < length cells → cond b (get_or (cond b (set cells p v) cells) p (pos 0)) (pos 0) ≡ cond b v (pos 0)
stored_here true cells p v h = get_or-set_same cells p v (pos 0) h
stored_here false cells p v h = refl

stored_there : (b : Bool) (cells : List ℤ) (p k : ℕ) (v : ℤ) → k ≢ p → cond b (get_or (cond b (set cells p v) cells) k (pos 0)) (pos 0) ≡ cond b (get_or cells k (pos 0)) (pos 0)
stored_there true cells p k v h = get_or-set_other cells p k v (pos 0) h
stored_there false cells p k v h = refl

moved : (b : Bool) (cell r : ℤ) → (b ≡ false → r ≡ pos 0) → Same (parts (cond b (cond b cell (pos 0) +ℤ r) (pos 0))) (add_d (parts (cond b cell (pos 0))) (parts r))
moved true cell r h = omega (arith, sum cell r)
moved false cell r h = omega (arith, ap up (h refl), ap dn (h refl))

exact-here : (b : Bool) (g : ℕ) (S E : ℤ) → (b ≡ false → (g ≡ 0) × (S ≡ pos 0)) → cond b (adjusted g S E) (pos 0) ≡ adjusted g S E
unfolding adjusted
exact-here true g S E h = refl
exact-here false g S E h = rw ((h refl).0, (h refl).1, zero-*ℤ E)

-- ---- without trend: the residual over the old power, times 65536; and a number moved by a share of it
residual-law : (P : ℕ) (l s y : ℤ) → pos (65536 * P) *ℤ (pos 65536 *ℤ y) -ℤ (pos 65536 *ℤ l +ℤ pos 0 +ℤ pos 65536 *ℤ s) ≡ pos 65536 *ℤ (pos P *ℤ (pos 65536 *ℤ y) -ℤ l -ℤ s)
residual-law P l s y = rw (known l, known s, known y) (simp diff (omega arith))

adjusted-law : (g : ℕ) (z w e : ℤ) → w ≡ pos 65536 *ℤ z → adjusted g w (pos 65536 *ℤ e) ≡ pos 4294967296 *ℤ z +ℤ pos (65536 * g) *ℤ e
unfolding adjusted
adjusted-law g z w e h = rw (h, known z, known e) (simp diff (omega arith))

kept-law : (z e : ℤ) → adjusted 0 (pos 65536 *ℤ z) e ≡ pos 4294967296 *ℤ z
unfolding adjusted
kept-law z e = rw (known z, known e) (simp diff (omega arith))

pub plus_none : (z d : ℤ) → d ≡ pos 0 → z +ℤ d ≡ z
plus_none z d h = rw (h, known z) (simp diff (omega arith))

-- without trend the exact values are over two powers a reading
pub even : (c : Parameters) (x : Exact) → c.trended ≡ false → exponent c x ≡ 2 * x.n
even c x flat = rw flat (omega arith)

-- the exact values at the place where the state stands
module _ (c : Parameters) (x : Exact) (y : ℤ) (p : ℕ) (flat : c.trended ≡ false) (same-p : x.p ≡ p) (none : c.seasonal ≡ false → (c.gamma ≡ 0) × ((k : ℕ) → x.S k ≡ pos 0)) where
  abbrev E : ℤ
  E = pos (power x) *ℤ (pos 65536 *ℤ y) -ℤ x.L -ℤ x.S p

  still : exact_damped c x ≡ pos 0
  unfolding exact_damped
  still = rw flat

  residual-at : exact_residual c x y ≡ pos 65536 *ℤ E
  unfolding exact_residual_by
  residual-at = rw (even c x flat, still, same-p, pow-succ' 65536 (2 * x.n)) (residual-law (power x) x.L (x.S p) y)

  L-new : (exact_reading c x y).L ≡ pos 4294967296 *ℤ x.L +ℤ pos (65536 * c.alpha) *ℤ E
  L-new = rw residual-at (adjusted-law c.alpha x.L (pos 65536 *ℤ x.L +ℤ exact_damped c x) E (plus_none (pos 65536 *ℤ x.L) (exact_damped c x) still))

  S-here : (exact_reading c x y).S p ≡ pos 4294967296 *ℤ x.S p +ℤ pos (65536 * c.gamma) *ℤ E
  unfolding exact_season_by
  S-here =
      rw (eq-eqb p x.p (sym same-p), residual-at)
      (exact-here c.seasonal c.gamma (pos 65536 *ℤ x.S p) (pos 65536 *ℤ E) (λ h. ((none h).0, rw ((none h).1 p)))
      ∙ adjusted-law c.gamma (x.S p) (pos 65536 *ℤ x.S p) E refl)

  S-there : (k : ℕ) → k ≢ p → (exact_reading c x y).S k ≡ pos 4294967296 *ℤ x.S k
  unfolding exact_season_by
  S-there k h =
      rw (ne_eqb k x.p (λ q. h (q ∙ same-p)))
      (exact-here c.seasonal 0 (pos 65536 *ℤ x.S k) (exact_residual c x y) (λ z. (refl, rw ((none z).1 k)))
      ∙ kept-law (x.S k) (exact_residual c x y))

-- the rounded ones
module _ (s : State) (e : ℤ) (score : Score) (flat : damped_trend s ≡ pos 0) (none : has_season s.model ≡ false → s.gamma ≡ 0) (fits : s.index < length s.seasonal) where
  level-new : Same (parts (corrected s e score).level) (add_d (parts s.level) (parts (share (ties_to_even s.model) s.alpha e)))
  unfolding new_level
  level-new = omega (arith, sum (s.level +ℤ damped_trend s) (share (ties_to_even s.model) s.alpha e), sum s.level (damped_trend s), ap up flat, ap dn flat)

  value-new : Same (parts (value_at (corrected s e score) s.index)) (add_d (parts (value_at s s.index)) (parts (share (ties_to_even s.model) s.gamma e)))
  unfolding seasonal_by new_season season_by
  value-new =
      rw (stored_here (has_season s.model) s.seasonal s.index (new_season (terms_of s) e) fits)
      (moved (has_season s.model) (get_or s.seasonal s.index (pos 0)) (share (ties_to_even s.model) s.gamma e) (λ h. rw (none h) (share-none (ties_to_even s.model) e)))

  value-other : (k : ℕ) → k ≢ s.index → value_at (corrected s e score) k ≡ value_at s k
  unfolding seasonal_by
  value-other k h = stored_there (has_season s.model) s.seasonal s.index k (new_season (terms_of s) e) h

-- a value that is not visited, at the next power
kept : (Kn : ℕ) (v v' Z Z' : ℤ) → v' ≡ v → Z' ≡ pos 4294967296 *ℤ Z → Same (neg_d (err (4294967296 * Kn) (parts v') (parts Z'))) (scale_d 4294967296 (neg_d (err Kn (parts v) (parts Z))))
kept Kn v v' Z Z' e h = rw e (omega (arith, ap up h, ap dn h, scaled 4294967296 Z))

swapped : (ε δ σ : D) → Same (add_d ε (add_d δ σ)) zero_d → Same (add_d ε (add_d σ δ)) zero_d
swapped ε δ σ h = omega arith

pub power-next : (n : ℕ) → 65536 ^ (2 * suc n) ≡ 4294967296 * 65536 ^ (2 * n)
power-next n =
    let e : 2 * suc n ≡ suc (suc (2 * n)) = omega arith in
    rw (e, pow-succ' 65536 (suc (2 * n)), pow-succ' 65536 (2 * n)) (square (65536 ^ (2 * n)))
  where
    square : (P : ℕ) → 65536 * (65536 * P) ≡ 4294967296 * P
    square P = omega arith

module _ (s : State) (x : Exact) (y : ℤ) (B C : ℕ) (h_a : 65536 * s.alpha + 65536 * B ≡ 4294967296) (h_g : 65536 * s.gamma + 65536 * C ≡ 4294967296) (trendless : has_trend s.model ≡ false) (same-p : x.p ≡ s.index) (none : has_season s.model ≡ false → (s.gamma ≡ 0) × ((k : ℕ) → x.S k ≡ pos 0)) (fits : s.index < length s.seasonal) where
  s' : State
  s' = after_reading s y

  x' : Exact
  x' = exact_reading (parameters_of s) x y

  flat : damped_trend s ≡ pos 0
  unfolding damped_trend
  flat = rw trendless

  residuals : Same (add_d (err (power x) (parts (residual_of s y)) (parts (E (parameters_of s) x y s.index trendless same-p none))) (add_d (err (power x) (parts s.level) (parts x.L)) (err (power x) (parts (value_at s s.index)) (parts (x.S s.index))))) zero_d
  unfolding residual season_by
  residuals =
      residual-error (power x) (residual_of s y) s.level (damped_trend s) (season_due s) x.L (x.S s.index) y flat refl

  there : (k : ℕ) → k ≢ s.index → Same (season_err s' x' k) (scale_d 4294967296 (season_err s x k))
  unfolding s' x'
  there k h =
      rw (power-next x.n)
      (kept (power x) (value_at s k) (value_at (after_reading s y) k) (x.S k) ((exact_reading (parameters_of s) x y).S k) (value-other s (residual_of s y) (after_reading s y).score flat (λ h. (none h).0) fits k h) (S-there (parameters_of s) x y s.index trendless same-p none k h))

  levels : Both (4294967296 * power x) (level_err s' x') (mix (65536 * B) (level_err s x) (65536 * s.alpha) (season_err s x s.index))
  unfolding s' x'
  levels =
      rw (power-next x.n)
      (corrected-both (ties_to_even s.model) (power x) s.alpha B h_a (residual_of s y) (E (parameters_of s) x y s.index trendless same-p none) s.level x.L (value_at s s.index) (x.S s.index) s'.level x'.L (level-new s (residual_of s y) (after_reading s y).score flat (λ h. (none h).0) fits) (L-new (parameters_of s) x y s.index trendless same-p none) residuals)

  values : Both (4294967296 * power x) (neg_d (season_err s' x' s.index)) (mix (65536 * C) (neg_d (season_err s x s.index)) (65536 * s.gamma) (neg_d (level_err s x)))
  unfolding s' x'
  values =
      rw (power-next x.n)
      (corrected-both (ties_to_even s.model) (power x) s.gamma C h_g (residual_of s y) (E (parameters_of s) x y s.index trendless same-p none) (value_at s s.index) (x.S s.index) s.level x.L (value_at s' s.index) (x'.S s.index) (value-new s (residual_of s y) (after_reading s y).score flat (λ h. (none h).0) fits) (S-here (parameters_of s) x y s.index trendless same-p none) (swapped _ _ _ residuals))

  pub reading-below : StepBelow 4294967296 (65536 * s.alpha) (65536 * B) (65536 * s.gamma) (65536 * C) (power x) s.index (level_err s x) (season_err s x) (level_err (after_reading s y) (exact_reading (parameters_of s) x y)) (season_err (after_reading s y) (exact_reading (parameters_of s) x y))
  unfolding s' x'
  reading-below = record { level = levels.0; here = values.1; there = there }

  pub reading-above : StepBelow 4294967296 (65536 * s.alpha) (65536 * B) (65536 * s.gamma) (65536 * C) (power x) s.index (neg_d (level_err s x)) (negs (season_err s x)) (neg_d (level_err (after_reading s y) (exact_reading (parameters_of s) x y))) (negs (season_err (after_reading s y) (exact_reading (parameters_of s) x y)))
  unfolding s' x'
  reading-above = record { level = levels.1; here = values.0; there = λ k h. sym (there k h) }
