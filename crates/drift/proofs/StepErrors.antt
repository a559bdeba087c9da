-- The step is within one unit of the exact step from the same state: d, and each gain's share of the residual, are rounded once.
use mathlib.Core.Path.{◌≡◌, refl, ap}
use mathlib.Core.Bool.{Bool, true, false, cond}
use mathlib.Core.Logic.{◌≢◌}
use Prim.Native.Nat.{ℕ, ◌+◌, ◌*◌, ◌-◌, ◌^◌, ◌≤◌, ◌<◌}
use native.Mathlib.Nat.{le_refl}
use native.Mathlib.Decide.{ℕ_discrete}
use native.Mathlib.Omega.{arith}
use lib.IntN.{ℤ, pos, negsuc, nat_abs, ◌+ℤ◌, ◌-ℤ◌, ◌*ℤ◌, +ℤ_idr}
use lib.ListN.{length, get_or}
use lib.Seq.{get_or-set_same, get_or-set_other}
use Rattle.integers.specs.Bounds.{Within}
use Rattle.integers.proofs.Difference.{diff, known, up, dn, scaled}
use Rattle.integers.proofs.Bounds.{within-zero, within-add, within-sub, within-mul, within-parts}
use Rattle.state.specs.Fixed.{share}
use Rattle.models.specs.Models.{has_trend, has_season, ties_to_even}
use Rattle.state.specs.States.{check}
use Rattle.state.specs.declared.State.{State}
use Rattle.state.proofs.Passing.{bounded, no_trend, no_season}
use Rattle.state.proofs.Rounding.{share-error}
use Rattle.ets.specs.Steps.{terms_of, damped_trend, season_by, residual_of, new_level, new_trend, new_season, seasonal_by, new_seasonal, after_reading, advanced, residual}
use Rattle.drift.specs.Exact.{Parameters, parameters_of, Exact, exact_of, exact_damped, exact_residual_by, exact_residual, adjusted, exact_reading}
use Rattle.drift.specs.Limits.{AtMost}
use Rattle.drift.specs.Components.{StepErrors, MissingErrors}
use Rattle.drift.proofs.Components.{season-here, season-there}

-- ---- a value v and its exact Z, corrected by a residual that is as far from the exact one; r is the rounded share of the gain g, of which C is the rest
moved-law : (g C : ℕ) (v Z r e : ℤ) → g + C ≡ 65536 → pos 2 *ℤ (pos 4294967296 *ℤ (v +ℤ r) -ℤ (pos 65536 *ℤ Z +ℤ pos g *ℤ (pos 65536 *ℤ e +ℤ (pos 65536 *ℤ v -ℤ Z)))) ≡ pos C *ℤ (pos 2 *ℤ (pos 65536 *ℤ v -ℤ Z)) +ℤ pos 65536 *ℤ (pos 2 *ℤ (pos 65536 *ℤ r -ℤ pos g *ℤ e))
moved-law g C v Z r e h =
    rw (known v, known Z, known r, known e)
    (simp diff (omega (arith, ap (λ (z : ℕ). z * up v) h, ap (λ (z : ℕ). z * dn v) h, ap (λ (z : ℕ). z * up Z) h, ap (λ (z : ℕ). z * dn Z) h)))

-- the same of a value that starts exact, with η between the residuals
kept-law : (g : ℕ) (v r e η : ℤ) → pos 2 *ℤ (pos 4294967296 *ℤ (v +ℤ r) -ℤ (pos 65536 *ℤ (pos 65536 *ℤ v) +ℤ pos g *ℤ (pos 65536 *ℤ e +ℤ η))) ≡ pos 65536 *ℤ (pos 2 *ℤ (pos 65536 *ℤ r -ℤ pos g *ℤ e)) -ℤ pos g *ℤ (pos 2 *ℤ η)
kept-law g v r e η = rw (known v, known r, known e, known η) (simp diff (omega arith))

one_unit : (n : ℕ) (z Z : ℤ) → n ≤ 2 * 4294967296 → Within n (pos 2 *ℤ (pos 4294967296 *ℤ z -ℤ Z)) → AtMost 1 1 2 z Z
unfolding AtMost
one_unit n z Z h w = go (pos 4294967296 *ℤ z -ℤ Z) w
  where
    go : (u : ℤ) → Within n (pos 2 *ℤ u) → 1 * nat_abs u ≤ 1 * 65536 ^ 2
    go (pos a) w = omega (arith, within-parts w, scaled 2 (pos a))
    go (negsuc a) w = omega (arith, within-parts w, scaled 2 (negsuc a))

module _ (even : Bool) (g : ℕ) (hg : g ≤ 65536) (e η E : ℤ) (apart : E ≡ pos 65536 *ℤ e +ℤ η) (small : Within 65536 (pos 2 *ℤ η)) where
  pub moved : (v Z : ℤ) → pos 65536 *ℤ v -ℤ Z ≡ η → AtMost 1 1 2 (v +ℤ share even g e) (adjusted g Z E)
  unfolding adjusted
  moved v Z h =
      let C : ℕ = 65536 - g in
      one_unit (C * 65536 + 65536 * 65536) (v +ℤ share even g e) (pos 65536 *ℤ Z +ℤ pos g *ℤ E) (omega arith)
      (rw (apart, ← h, moved-law g C v Z (share even g e) e (omega arith))
      (within-add (within-mul (le_refl C) (rw (← h) at small)) (within-mul (le_refl 65536) (share-error even g e))))

  pub kept : (v : ℤ) → AtMost 1 1 2 (v +ℤ share even g e) (adjusted g (pos 65536 *ℤ v) E)
  unfolding adjusted
  kept v =
      one_unit (65536 * 65536 + g * 65536) (v +ℤ share even g e) (pos 65536 *ℤ (pos 65536 *ℤ v) +ℤ pos g *ℤ E) (omega arith)
      (rw (apart, kept-law g v (share even g e) e η)
      (within-sub (within-mul (le_refl 65536) (share-error even g e)) (within-mul (le_refl g) small)))

-- ---- the step from a state
none-missed : (b : Bool) → ◌≡◌ {A = ℕ} (cond b 0 0) 0
none-missed true = refl
none-missed false = refl

damped-apart : (b even : Bool) (F : ℕ) (t : ℤ) → Within 65536 (pos 2 *ℤ (pos 65536 *ℤ cond b (share even F t) (pos 0) -ℤ cond b (pos F *ℤ t) (pos 0)))
damped-apart true even F t = share-error even F t
damped-apart false even F t = within-zero 65536

residual-law : (l d D s y : ℤ) → pos 65536 *ℤ (pos 65536 *ℤ y) -ℤ (pos 65536 *ℤ l +ℤ D +ℤ pos 65536 *ℤ s) ≡ pos 65536 *ℤ (pos 65536 *ℤ y -ℤ (l +ℤ d +ℤ s)) +ℤ (pos 65536 *ℤ d -ℤ D)
residual-law l d D s y = rw (known l, known d, known D, known s, known y) (simp diff (omega arith))

level-apart : (l d D : ℤ) → pos 65536 *ℤ (l +ℤ d) -ℤ (pos 65536 *ℤ l +ℤ D) ≡ pos 65536 *ℤ d -ℤ D
level-apart l d D = rw (known l, known d, known D) (simp diff (omega arith))

left-law : (v e : ℤ) → pos 2 *ℤ (pos 4294967296 *ℤ v -ℤ (pos 65536 *ℤ (pos 65536 *ℤ v) +ℤ pos 0 *ℤ e)) ≡ pos 0
left-law v e = rw (known v, known e) (simp diff (omega arith))

untouched : (v e : ℤ) → AtMost 1 1 2 v (adjusted 0 (pos 65536 *ℤ v) e)
unfolding adjusted
untouched v e = one_unit 0 v (pos 65536 *ℤ (pos 65536 *ℤ v) +ℤ pos 0 *ℤ e) (omega arith) (rw (left-law v e) (within-zero 0))

module _ (s : State) (full : length s.seasonal ≡ 48) (ok : check s ≡ 0) (y : ℤ) where
  abbrev c : Parameters
  c = parameters_of s

  abbrev x : Exact
  x = exact_of s

  abbrev η : ℤ
  η = pos 65536 *ℤ damped_trend s -ℤ exact_damped c x

  small : Within 65536 (pos 2 *ℤ η)
  unfolding damped_trend exact_damped
  small = damped-apart (has_trend s.model) (ties_to_even s.model) s.phi s.trend

  residuals : exact_residual c x y ≡ pos 65536 *ℤ residual_of s y +ℤ η
  unfolding exact_residual_by residual season_by
  residuals = rw (none-missed (has_trend s.model)) (residual-law s.level (damped_trend s) (exact_damped c x) (x.S s.index) y)

  level : AtMost 1 1 2 (after_reading s y).level (exact_reading c x y).L
  unfolding new_level
  level =
      moved (ties_to_even s.model) s.alpha (bounded s ok).alpha (residual_of s y) η (exact_residual c x y) residuals small (s.level +ℤ damped_trend s) (pos 65536 *ℤ s.level +ℤ exact_damped c x)
      (level-apart s.level (damped_trend s) (exact_damped c x))

  trend : AtMost 1 1 2 (after_reading s y).trend (exact_reading c x y).T
  unfolding new_trend
  trend =
      moved (ties_to_even s.model) s.beta (bounded s ok).beta (residual_of s y) η (exact_residual c x y) residuals small (damped_trend s) (exact_damped c x) refl

  -- the place that the reading has, and another
  module _ (h : has_season s.model ≡ true) where
    stored_here : get_or (new_seasonal s (residual_of s y)) s.index (pos 0) ≡ new_season (terms_of s) (residual_of s y)
    unfolding seasonal_by
    stored_here = rw h (get_or-set_same s.seasonal s.index (new_season (terms_of s) (residual_of s y)) (pos 0) (omega (arith, (bounded s ok).index)))

    stored_there : (k : ℕ) → k ≢ s.index → get_or (new_seasonal s (residual_of s y)) k (pos 0) ≡ x.S k
    unfolding seasonal_by
    stored_there k q = rw h (get_or-set_other s.seasonal s.index k (new_season (terms_of s) (residual_of s y)) (pos 0) q)

    season-of : (k : ℕ) → Dec (k ≡ s.index) → AtMost 1 1 2 (get_or (after_reading s y).seasonal k (pos 0)) ((exact_reading c x y).S k)
    unfolding new_season season_by
    season-of k (yes q) =
        rw (q, stored_here, season-here c x (exact_residual c x y) h)
        (kept (ties_to_even s.model) s.gamma (bounded s ok).gamma (residual_of s y) η (exact_residual c x y) residuals small (x.S s.index))
    season-of k (no q) =
        rw (stored_there k q, season-there c x (exact_residual c x y) k h q)
        (untouched (x.S k) (exact_residual c x y))

  seasons : (k : ℕ) → k < s.period → AtMost 1 1 2 (get_or (after_reading s y).seasonal k (pos 0)) ((exact_reading c x y).S k)
  seasons k l = go (has_season s.model) refl
    where
      go : (b : Bool) → has_season s.model ≡ b → AtMost 1 1 2 (get_or (after_reading s y).seasonal k (pos 0)) ((exact_reading c x y).S k)
      go true e = season-of e k (ℕ_discrete k s.index)
      go false e = absurd (omega (arith, (no_season s ok e).period))

pub step-errors : StepErrors
step-errors s full ok y = record { level = level s full ok y; trend = trend s full ok y; seasons = seasons s full ok y }

-- ---- a missing reading from a state
half-unit : (z : ℤ) → Within 65536 (pos 2 *ℤ z) → 2 * nat_abs z ≤ 1 * 65536 ^ 1
half-unit (pos a) w = omega (arith, within-parts w, scaled 2 (pos a))
half-unit (negsuc a) w = omega (arith, within-parts w, scaled 2 (negsuc a))

pub none_apart : (v : ℤ) → pos 1 *ℤ v -ℤ v ≡ pos 0
none_apart v = rw (known v) (simp diff (omega arith))

module _ (s : State) (ok : check s ≡ 0) where
  -- by cases on the trend, which is b
  level-skipped : (b : Bool) → AtMost 1 2 (0 + cond b 1 0) (s.level +ℤ cond b (share (ties_to_even s.model) s.phi s.trend) (pos 0)) (cond b (pos 65536 *ℤ s.level +ℤ cond b (pos s.phi *ℤ s.trend) (pos 0)) s.level)
  unfolding AtMost
  level-skipped true =
      rw (level-apart s.level (share (ties_to_even s.model) s.phi s.trend) (pos s.phi *ℤ s.trend))
      (half-unit (pos 65536 *ℤ share (ties_to_even s.model) s.phi s.trend -ℤ pos s.phi *ℤ s.trend) (share-error (ties_to_even s.model) s.phi s.trend))
  level-skipped false = rw (+ℤ_idr s.level, none_apart s.level) (omega arith)

  trend-skipped : (b : Bool) → has_trend s.model ≡ b → AtMost 1 2 (0 + cond b 1 0) (cond b (share (ties_to_even s.model) s.phi s.trend) (pos 0)) (cond b (cond b (pos s.phi *ℤ s.trend) (pos 0)) s.trend)
  unfolding AtMost
  trend-skipped true e =
      half-unit (pos 65536 *ℤ share (ties_to_even s.model) s.phi s.trend -ℤ pos s.phi *ℤ s.trend) (share-error (ties_to_even s.model) s.phi s.trend)
  trend-skipped false e = rw (no_trend s ok e).trend (omega arith)

  season-skipped : (b t : Bool) (v : ℤ) → t ≡ true → pos (65536 ^ (0 + cond b 1 0)) *ℤ v ≡ cond b (pos 65536 *ℤ cond t v (pos 0)) (cond t v (pos 0))
  season-skipped true t v e = rw e
  season-skipped false t v e = rw (e, known v) (simp diff (omega arith))

pub missing-errors : MissingErrors
unfolding advanced damped_trend exact_damped
missing-errors s ok =
    record {
      level = level-skipped s ok (has_trend s.model);
      trend = trend-skipped s ok (has_trend s.model) refl;
      seasons = λ k l. season-skipped s ok (has_trend s.model) (has_season s.model) (get_or s.seasonal k (pos 0)) (seasonal l);
    }
  where
    seasonal : {k : ℕ} → k < s.period → has_season s.model ≡ true
    seasonal l = go (has_season s.model) refl
      where
        go : (b : Bool) → has_season s.model ≡ b → b ≡ true
        go true e = refl
        go false e = absurd (omega (arith, (no_season s ok e).period))
