-- Document 02, W-208: what holds of the calls that take lists of clock changes.
use Rattle.std.specs.Prelude.{ℕ, ◌+◌, ◌≤◌, ◌<◌, true, List, ◌≡◌, ℤ, ◌≤ℤ◌, Ok}
use Rattle.calendars.specs.Calendars.{Calendar, no_changes}
use Rattle.state.specs.declared.State.{State}
use Rattle.ets.specs.Steps.{step, missing}
use Rattle.ets.specs.Batches.{batch, batch_levels}
use Rattle.ets.specs.Calendars.{missing_code_on, step_on, missing_on, batch_on, batch_levels_on}
use Rattle.forecasts.specs.Forecasts.{max_horizon, forecast, forecasts, forecast_cells}
use Rattle.forecasts.specs.Calendars.{place_by, forecast_by, forecast_on, forecasts_on, forecast_cells_on}
use Rattle.clock.specs.Windows.{in_window, window_maximum}

-- ---- two empty lists: each call is the one without lists, rejected calls included
pub record Unchanged (s : State) : Type 0 where
  pub reading : (y : ℤ) → step_on no_changes s y ≡ step s y
  pub gap : missing_on no_changes s ≡ missing s
  pub series : (ys : List ℤ) (room : ℕ) → batch_on no_changes s ys room ≡ batch s ys room
  pub levels : (ys cells : List ℤ) → batch_levels_on no_changes s ys cells ≡ batch_levels s ys cells
  pub one : (h : ℕ) → forecast_on no_changes s h ≡ forecast s h
  pub all : (h room : ℕ) → forecasts_on no_changes s h room ≡ forecasts s h room
  pub cells : (h : ℕ) (cells : List ℤ) → forecast_cells_on no_changes s h cells ≡ forecast_cells s h cells

-- for every state handed in with a season of 24 places
abbrev pub EmptyLists : Type 0
EmptyLists = (s : State) → s.period ≡ 24 → Unchanged s

-- ---- the forecast at h after a missing reading is the forecast at h + 1 before it, with the same lists: the number, and the call's answer where h + 1 is a horizon
pub record ForecastAfter (k : Calendar) (s : State) (h : ℕ) : Type 0 where
  pub value : forecast_by k (missing_on k s).state h ≡ forecast_by k s (h + 1)
  pub answer : h < max_horizon → forecast_on k (missing_on k s).state h ≡ forecast_on k s (h + 1)

-- from every state that takes it
abbrev pub MissingForecasts : Type 0
MissingForecasts = (k : Calendar) (s : State) → missing_code_on k s ≡ 0 → (h : ℕ) → 1 ≤ h → ForecastAfter k s h

-- ---- the window's answer is the forecast of one of the next 24 steps whose place is inside, and that of no other one is above it
pub record Attained (k : Calendar) (s : State) (start end : ℕ) (v : ℤ) : Type 0 where
  pub step : ℕ
  pub least : 1 ≤ step
  pub most : step ≤ 24
  pub place : in_window start end (place_by k s step) ≡ true
  pub value : forecast_by k s step ≡ v

pub record IsLargest (k : Calendar) (s : State) (start end : ℕ) (v : ℤ) : Type 0 where
  pub one : Attained k s start end v
  pub others : (h : ℕ) → 1 ≤ h → h ≤ 24 → in_window start end (place_by k s h) ≡ true → forecast_by k s h ≤ℤ v

abbrev pub WindowMaxima : Type 0
WindowMaxima = (k : Calendar) (s : State) (start end : ℕ) (v : ℤ) → window_maximum k s start end ≡ Ok v → IsLargest k s start end v

pub record CalendarLaws : Type 0 where
  pub empty : EmptyLists
  pub gap : MissingForecasts
  pub window : WindowMaxima
