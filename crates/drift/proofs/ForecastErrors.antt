-- The forecast from the same state against the exact one.
use mathlib.Core.Path.{◌≡◌, refl, sym, ◌∙◌, ap}
use mathlib.Core.Bool.{Bool, true, false, cond}
use Prim.Native.Nat.{ℕ, zero, suc, ◌+◌, ◌*◌, ◌-◌, ◌%◌, ◌^◌, ◌≤◌, ◌<◌}
use native.Mathlib.Nat.{le_refl, pow-succ'}
use native.Mathlib.Omega.{arith}
use lib.IntN.{ℤ, pos, negsuc, nat_abs, ◌+ℤ◌, ◌-ℤ◌, ◌*ℤ◌, zero-*ℤ}
use lib.ListN.{get_or}
use borrow.Author.Tests.{eqb-true}
use Rattle.integers.specs.Bounds.{Within}
use Rattle.integers.proofs.Difference.{diff, ints, known, sum, scaled}
use Rattle.integers.proofs.Bounds.{within-zero, within-add, within-mul, within-parts}
use Rattle.state.specs.Fixed.{share}
use Rattle.models.specs.Models.{trend_of, has_season, damping_ok, ties_to_even}
use Rattle.state.specs.States.{check}
use Rattle.state.specs.declared.State.{State}
use Rattle.models.proofs.ModelLaws.{no_third}
use Rattle.state.proofs.Rounding.{share-error, share-one, share-none}
use Rattle.state.proofs.Passing.{allowed, passed, bounded}
use Rattle.forecasts.specs.Forecasts.{trend_at, trend_line, season_at, forecast_of}
use Rattle.drift.specs.Exact.{parameters_of, exact_of, exact_trend_at, exact_line, exact_forecast}
use Rattle.drift.specs.Limits.{AtMost}
use Rattle.drift.specs.ForecastErrors.{exact_from, DampedBound, ForecastErrors}

-- ---- with damping: 2 |dj − exact| ≤ j, and 4 |sum − exact| ≤ h (h + 1)
trend-zero : (d : ℤ) → pos 2 *ℤ (pos 1 *ℤ d -ℤ d) ≡ pos 0
trend-zero d = rw (known d) (simp diff (omega arith))

trend-next : (f p : ℕ) (e d n : ℤ) → pos 2 *ℤ (pos (65536 * p) *ℤ e -ℤ pos f *ℤ n) ≡ pos p *ℤ (pos 2 *ℤ (pos 65536 *ℤ e -ℤ pos f *ℤ d)) +ℤ pos f *ℤ (pos 2 *ℤ (pos p *ℤ d -ℤ n))
trend-next f p e d n = rw (known e, known d, known n) (simp diff (omega arith))

trend-limit : (k p : ℕ) → p * 65536 + 65536 * (k * p) ≡ suc k * (65536 * p)
trend-limit k p = omega arith

trend-error : (even : Bool) (F : ℕ) (b : ℤ) → F ≤ 65536 → (j : ℕ) → Within (j * 65536 ^ j) (pos 2 *ℤ (pos (65536 ^ j) *ℤ trend_at even F b j -ℤ exact_trend_at F b j))
unfolding trend_at exact_trend_at
trend-error even F b h zero = rw (trend-zero b) (within-zero (0 * 1))
trend-error even F b h (suc j) =
    rw (pow-succ' 65536 j, trend-next F (65536 ^ j) (share even F (trend_at even F b j)) (trend_at even F b j) (exact_trend_at F b j))
    (rw (trend-limit j (65536 ^ j)) at (within-add (within-mul (le_refl (65536 ^ j)) (share-error even F (trend_at even F b j))) (within-mul h (trend-error even F b h j))))

line-zero : (l : ℤ) → pos 4 *ℤ (pos 1 *ℤ l -ℤ l) ≡ pos 0
line-zero l = rw (known l) (simp diff (omega arith))

line-next : (p : ℕ) (s t d n : ℤ) → pos 4 *ℤ (pos (65536 * p) *ℤ (s +ℤ d) -ℤ (pos 65536 *ℤ t +ℤ n)) ≡ pos 65536 *ℤ (pos 4 *ℤ (pos p *ℤ s -ℤ t)) +ℤ pos 2 *ℤ (pos 2 *ℤ (pos (65536 * p) *ℤ d -ℤ n))
line-next p s t d n = rw (known s, known t, known d, known n) (simp diff (omega arith))

line-limit : (k p : ℕ) → 65536 * (k * suc k * p) + 2 * (suc k * (65536 * p)) ≡ suc k * suc (suc k) * (65536 * p)
line-limit k p = omega arith

line-error : (s : State) → s.phi ≤ 65536 → (h : ℕ) → Within (h * suc h * 65536 ^ h) (pos 4 *ℤ (pos (65536 ^ h) *ℤ trend_line (ties_to_even s.model) s.level s.phi s.trend h -ℤ exact_line (parameters_of s) (exact_of s) h))
unfolding trend_line exact_line
line-error s f zero = rw (line-zero s.level) (within-zero (0 * 1 * 1))
line-error s f (suc h) =
    rw (pow-succ' 65536 h, line-next (65536 ^ h) (trend_line (ties_to_even s.model) s.level s.phi s.trend h) (exact_line (parameters_of s) (exact_of s) h) (trend_at (ties_to_even s.model) s.phi s.trend (suc h)) (exact_trend_at s.phi s.trend (suc h)))
    (rw (line-limit h (65536 ^ h)) at (within-add (within-mul (le_refl 65536) (line-error s f h)) (within-mul (le_refl 2) (rw (pow-succ' 65536 h) at (trend-error (ties_to_even s.model) s.phi s.trend f (suc h))))))

-- ---- without trend, and with a straight one
none-added : (z d : ℤ) → d ≡ pos 0 → z +ℤ d ≡ z
none-added z d h = omega (ints, sum z d)

pub flat_line : (s : State) → s.phi ≡ 0 → (h : ℕ) → trend_line (ties_to_even s.model) s.level s.phi s.trend h ≡ s.level
unfolding trend_line trend_at
flat_line s e zero = refl
flat_line s e (suc h) =
    none-added (trend_line (ties_to_even s.model) s.level s.phi s.trend h) (trend_at (ties_to_even s.model) s.phi s.trend (suc h)) (ap (λ (F : ℕ). trend_at (ties_to_even s.model) F s.trend (suc h)) e ∙ share-none (ties_to_even s.model) (trend_at (ties_to_even s.model) 0 s.trend h))
    ∙ flat_line s e h

straight-trend : (even : Bool) (b : ℤ) (j : ℕ) → trend_at even 65536 b j ≡ b
unfolding trend_at
straight-trend even b zero = refl
straight-trend even b (suc j) = share-one even (trend_at even 65536 b j) ∙ straight-trend even b j

one_more : (h : ℕ) (l b : ℤ) → l +ℤ pos h *ℤ b +ℤ b ≡ l +ℤ pos (suc h) *ℤ b
one_more h l b = rw (known l, known b) (simp diff (omega arith))

straight_line : (s : State) → s.phi ≡ 65536 → (h : ℕ) → trend_line (ties_to_even s.model) s.level s.phi s.trend h ≡ s.level +ℤ pos h *ℤ s.trend
unfolding trend_line
straight_line s e zero = sym (none-added s.level (pos 0 *ℤ s.trend) (zero-*ℤ s.trend))
straight_line s e (suc h) =
    rw (straight_line s e h, ap (λ (F : ℕ). trend_at (ties_to_even s.model) F s.trend (suc h)) e, straight-trend (ties_to_even s.model) s.trend (suc h))
    (one_more h s.level s.trend)

-- ---- a factor that rounds nothing
abbrev Whole : Bool → ℕ → Type 0
Whole even F = (z : ℤ) → pos 65536 *ℤ share even F z ≡ pos F *ℤ z

once : (x : ℤ) → pos 1 *ℤ x ≡ x
once x = rw (known x) (simp diff (omega arith))

times-assoc : (p : ℕ) (x : ℤ) → pos (65536 * p) *ℤ x ≡ pos p *ℤ (pos 65536 *ℤ x)
times-assoc p x = rw (known x) (simp diff (omega arith))

times-swap : (p f : ℕ) (x : ℤ) → pos p *ℤ (pos f *ℤ x) ≡ pos f *ℤ (pos p *ℤ x)
times-swap p f x = rw (known x) (simp diff (omega arith))

whole-trend : (even : Bool) (F : ℕ) (b : ℤ) → Whole even F → (j : ℕ) → pos (65536 ^ j) *ℤ trend_at even F b j ≡ exact_trend_at F b j
unfolding trend_at exact_trend_at
whole-trend even F b w zero = once b
whole-trend even F b w (suc j) =
    rw (pow-succ' 65536 j, times-assoc (65536 ^ j) (share even F (trend_at even F b j)), w (trend_at even F b j), times-swap (65536 ^ j) F (trend_at even F b j), whole-trend even F b w j)

line-whole : (p : ℕ) (s d : ℤ) → pos (65536 * p) *ℤ (s +ℤ d) ≡ pos 65536 *ℤ (pos p *ℤ s) +ℤ pos (65536 * p) *ℤ d
line-whole p s d = rw (known s, known d) (simp diff (omega arith))

whole-line : (s : State) → Whole (ties_to_even s.model) s.phi → (h : ℕ) → pos (65536 ^ h) *ℤ trend_line (ties_to_even s.model) s.level s.phi s.trend h ≡ exact_line (parameters_of s) (exact_of s) h
unfolding trend_line exact_line
whole-line s w zero = once s.level
whole-line s w (suc h) =
    rw (pow-succ' 65536 h, line-whole (65536 ^ h) (trend_line (ties_to_even s.model) s.level s.phi s.trend h) (trend_at (ties_to_even s.model) s.phi s.trend (suc h)), whole-line s w h)
    (ap (λ (z : ℤ). pos 65536 *ℤ exact_line (parameters_of s) (exact_of s) h +ℤ z) (ap (λ (p : ℕ). pos p *ℤ trend_at (ties_to_even s.model) s.phi s.trend (suc h)) (sym (pow-succ' 65536 h)) ∙ whole-trend (ties_to_even s.model) s.phi s.trend w (suc h)))

-- ---- which factor a model without damping has
undamped-phi : (even : Bool) (t F : ℕ) → t < 4 → (t ≡ 3 → ⊥) → (t ≡ 2 → ⊥) → damping_ok t F ≡ true → Whole even F
undamped-phi even zero F l h k d = λ z. rw (eqb-true F 0 d, share-none even z, zero-*ℤ z)
undamped-phi even (suc zero) F l h k d = λ z. rw (eqb-true F 65536 d) (ap (λ (x : ℤ). pos 65536 *ℤ x) (share-one even z))
undamped-phi even (suc (suc t)) F l h k d = absurd (omega arith)

-- ---- the season's value is added on both sides
twice : (b : Bool) (v : ℤ) → cond b (cond b v (pos 0)) (pos 0) ≡ cond b v (pos 0)
twice true v = refl
twice false v = refl

from-same : (s : State) (h : ℕ) → exact_from s h ≡ exact_line (parameters_of s) (exact_of s) h +ℤ pos (65536 ^ h) *ℤ season_at s h
unfolding exact_forecast season_at
from-same s h = rw (twice (has_season s.model) (get_or s.seasonal ((s.index + h - 1) % s.period) (pos 0)))

with_season : (p : ℕ) (t x v : ℤ) → pos p *ℤ (t +ℤ v) -ℤ (x +ℤ pos p *ℤ v) ≡ pos p *ℤ t -ℤ x
with_season p t x v = rw (known t, known x, known v) (simp diff (omega arith))

spread : (p : ℕ) (t v : ℤ) → pos p *ℤ (t +ℤ v) ≡ pos p *ℤ t +ℤ pos p *ℤ v
spread p t v = rw (known t, known v) (simp diff (omega arith))

absolute : (n : ℕ) (z : ℤ) → Within n (pos 4 *ℤ z) → 4 * nat_abs z ≤ n
absolute n (pos a) w = omega (arith, within-parts w, scaled 4 (pos a))
absolute n (negsuc a) w = omega (arith, within-parts w, scaled 4 (negsuc a))

module _ (s : State) (ok : check s ≡ 0) (h : ℕ) where
  damped : DampedBound h (forecast_of s h) (exact_from s h)
  unfolding AtMost forecast_of
  damped =
      rw (from-same s h, with_season (65536 ^ h) (trend_line (ties_to_even s.model) s.level s.phi s.trend h) (exact_line (parameters_of s) (exact_of s) h) (season_at s h))
      (omega (arith, absolute (h * suc h * 65536 ^ h) (pos (65536 ^ h) *ℤ trend_line (ties_to_even s.model) s.level s.phi s.trend h -ℤ exact_line (parameters_of s) (exact_of s) h) (line-error s (bounded s ok).phi h)))

  undamped : (trend_of s.model ≡ 2 → ⊥) → pos (65536 ^ h) *ℤ forecast_of s h ≡ exact_from s h
  unfolding forecast_of
  undamped k =
      spread (65536 ^ h) (trend_line (ties_to_even s.model) s.level s.phi s.trend h) (season_at s h)
      ∙ ap (λ (z : ℤ). z +ℤ pos (65536 ^ h) *ℤ season_at s h) (whole-line s (undamped-phi (ties_to_even s.model) (trend_of s.model) s.phi (omega arith) (no_third s.model (passed s ok).model) k (allowed s ok).phi) h)
      ∙ sym (from-same s h)

  level : trend_of s.model ≡ 0 → forecast_of s h ≡ s.level +ℤ season_at s h
  unfolding forecast_of
  level e = ap (λ (z : ℤ). z +ℤ season_at s h) (flat_line s (eqb-true s.phi 0 (rw e at (allowed s ok).phi)) h)

  straight : trend_of s.model ≡ 1 → forecast_of s h ≡ s.level +ℤ pos h *ℤ s.trend +ℤ season_at s h
  unfolding forecast_of
  straight e = ap (λ (z : ℤ). z +ℤ season_at s h) (straight_line s (eqb-true s.phi 65536 (rw e at (allowed s ok).phi)) h)

pub forecast-errors : ForecastErrors
forecast-errors s ok h = record { level = level s ok h; straight = straight s ok h; undamped = undamped s ok h; damped = damped s ok h }
