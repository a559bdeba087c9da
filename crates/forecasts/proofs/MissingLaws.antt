-- The forecast after a missing reading: its trends, its line and its seasonal index are those of one step on.
use Prim.Native.Nat.{ℕ, zero, suc, ◌+◌, ◌≤◌, ◌<◌}
use mathlib.Core.Path.{◌≡◌, refl, sym, ap, ap₂, ◌∙◌}
use mathlib.Core.Bool.{Bool}
use native.Mathlib.Numerals.{add-one}
use native.Mathlib.Omega.{arith}
use lib.IntN.{ℤ, pos, ◌+ℤ◌}
use lib.ListN.{get_or}
use borrow.Author.Tests.{le-leb}
use Rattle.state.specs.Fixed.{share}
use Rattle.models.specs.Models.{ties_to_even}
use Rattle.state.specs.declared.State.{State}
use Rattle.state.proofs.Passing.{valid}
use Rattle.calendars.specs.Turns.{next_index}
use Rattle.ets.specs.Steps.{damped_trend, advanced, after_missing, missing_code, missing}
use Rattle.ets.proofs.StepLaws.{missing-accepted, missing-facts}
use Rattle.ets.proofs.UpdateLaws.{damped-is}
use Rattle.ets.proofs.Kept.{missing-kept}
use Rattle.forecasts.specs.Forecasts.{trend_at, trend_line, season_at, max_horizon, forecast_code_to, forecast_to, forecast_of, forecast}
use Rattle.forecasts.specs.Promises.{MissingForecasts}
use Rattle.forecasts.proofs.ForecastLaws.{ahead, season-ahead}

pub trend-on : (even : Bool) (F : ℕ) (b : ℤ) (j : ℕ) → trend_at even F (share even F b) j ≡ trend_at even F b (suc j)
unfolding trend_at
trend-on even F b zero = refl
trend-on even F b (suc j) = ap (share even F) (trend-on even F b j)

pub line_on : (even : Bool) (l : ℤ) (F : ℕ) (b : ℤ) (h : ℕ) → trend_line even (l +ℤ share even F b) F (share even F b) h ≡ trend_line even l F b (suc h)
unfolding trend_at trend_line
line_on even l F b zero = refl
line_on even l F b (suc h) = ap₂ (λ (x y : ℤ). x +ℤ y) (line_on even l F b h) (trend-on even F b (suc h))

ahead-on : (m p i : ℕ) → ahead m (next_index m p) i ≡ ahead m p (suc i)
unfolding ahead
ahead-on m p zero = refl
ahead-on m p (suc i) = ap (next_index m) (ahead-on m p i)

module _ (s : State) (z : missing_code s ≡ 0) where
  season-on : (i : ℕ) → season_at (after_missing s) (suc i) ≡ season_at s (suc (suc i))
  season-on i =
      season-ahead (after_missing s) (valid (after_missing s) (missing-kept s z)) i
      ∙ ap (λ (k : ℕ). get_or s.seasonal k (pos 0)) (ahead-on s.period s.index i)
      ∙ sym (season-ahead s (valid s (missing-facts s z).valid) (suc i))

  line-is : (h : ℕ) → trend_line (ties_to_even s.model) (s.level +ℤ damped_trend s) s.phi (damped_trend s) h ≡ trend_line (ties_to_even s.model) s.level s.phi s.trend (suc h)
  line-is h = rw (damped-is s (valid s (missing-facts s z).valid)) (line_on (ties_to_even s.model) s.level s.phi s.trend h)

  forecast-on : (i : ℕ) → forecast_of (after_missing s) (suc i) ≡ forecast_of s (suc (suc i))
  unfolding forecast_of advanced
  forecast-on i = ap₂ (λ (x y : ℤ). x +ℤ y) (line-is (suc i)) (season-on i)

  value : (h : ℕ) → 1 ≤ h → forecast_of (missing s).state h ≡ forecast_of s (h + 1)
  value zero l = absurd (omega arith)
  value (suc i) l = rw (missing-accepted s z, add-one (suc i)) (forecast-on i)

  answer : (h : ℕ) → 1 ≤ h → h < max_horizon → forecast (missing s).state h ≡ forecast s (h + 1)
  unfolding forecast_code_to forecast_to
  answer h l k =
      let v = value h l in
      let a : 1 ≤ h + 1 = omega arith in
      let b : h + 1 ≤ 512 = omega arith in
      let c : h ≤ 512 = omega arith in
      rw (← v, missing-accepted s z, missing-kept s z, (missing-facts s z).valid, le-leb 1 h l, le-leb h 512 c, le-leb 1 (h + 1) a, le-leb (h + 1) 512 b)

pub missing-forecasts : MissingForecasts
missing-forecasts s z h l = record { value = value s z h l; answer = answer s z h l }
