-- Document 01, "Forecast and variance": the forecast from the same state is exact without damping and within h × (h + 1)/4 grains with it.
use Rattle.std.specs.Prelude.{ℕ, ◌+◌, ◌*◌, ◌^◌, ◌≡◌, ℤ, pos, ◌+ℤ◌, ◌*ℤ◌}
use Rattle.models.specs.Models.{trend_of}
use Rattle.state.specs.States.{check}
use Rattle.state.specs.declared.State.{State}
use Rattle.forecasts.specs.Forecasts.{season_at, forecast_of}
use Rattle.drift.specs.Exact.{parameters_of, exact_of, exact_forecast}
use Rattle.drift.specs.Limits.{AtMost}

-- the exact recursion's forecast from this state
abbrev pub exact_from : State → ℕ → ℤ
exact_from s h = exact_forecast (parameters_of s) (exact_of s) h

-- h × (h + 1)/4
abbrev pub DampedBound : ℕ → ℤ → ℤ → Type 0
DampedBound h z Z = AtMost (h * (h + 1)) 4 h z Z

pub record ForecastError (s : State) (h : ℕ) : Type 0 where
  -- without trend it is l and the season's value, with a straight one l, h × b and the season's value
  pub level : trend_of s.model ≡ 0 → forecast_of s h ≡ s.level +ℤ season_at s h
  pub straight : trend_of s.model ≡ 1 → forecast_of s h ≡ s.level +ℤ pos h *ℤ s.trend +ℤ season_at s h
  pub undamped : (trend_of s.model ≡ 2 → ⊥) → pos (65536 ^ h) *ℤ forecast_of s h ≡ exact_from s h
  pub damped : DampedBound h (forecast_of s h) (exact_from s h)

-- of each state that the checks let pass
abbrev pub ForecastErrors : Type 0
ForecastErrors = (s : State) → check s ≡ 0 → (h : ℕ) → ForecastError s h
