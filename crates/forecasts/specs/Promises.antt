-- What holds of forecasts and missing readings together (document 02, W-202), and of the bedside display's forecasts (W-206).
use Rattle.std.specs.Prelude.{ℕ, ◌+◌, ◌≤◌, ◌<◌, false, List, [], ◌≡◌, ℤ, pos, Ok}
use Rattle.state.specs.Rejections.{◌then◌, bad_horizon, rejects}
use Rattle.state.specs.Scores.{no_score}
use Rattle.state.specs.States.{state_of, check}
use Rattle.state.specs.declared.State.{State}
use Rattle.ets.specs.Steps.{missing_code, missing}
use Rattle.forecasts.specs.Forecasts.{max_horizon, forecast_of, forecast, forecasts, forecast_cells, display_forecast, display_forecasts, display_forecast_cells}

-- ---- W-202: a missing reading advances a model as its own forecast does

-- the forecast at h after a missing reading is the forecast at h + 1 before it: the number, and the call's answer where h + 1 is a horizon
pub record ForecastAfter (s : State) (h : ℕ) : Type 0 where
  pub value : forecast_of (missing s).state h ≡ forecast_of s (h + 1)
  pub answer : h < max_horizon → forecast (missing s).state h ≡ forecast s (h + 1)

-- from every state that takes it, of every model
abbrev pub MissingForecasts : Type 0
MissingForecasts = (s : State) → missing_code s ≡ 0 → (h : ℕ) → 1 ≤ h → ForecastAfter s h

-- ---- W-206: the bedside display

-- its answers and its cells are the phone's, rejected calls included
pub record SameAsPhone (s : State) (h : ℕ) : Type 0 where
  pub one : display_forecast s h ≡ forecast s h
  pub all : (room : ℕ) → display_forecasts s h room ≡ forecasts s h room
  pub cells : (cells : List ℤ) → display_forecast_cells s h cells ≡ forecast_cells s h cells

-- rejected by the state's checks, then by 11, and no cell is touched
pub record AboveLimit (s : State) (h : ℕ) : Type 0 where
  pub one : display_forecast s h ≡ rejects (check s then bad_horizon)
  pub all : (room : ℕ) → display_forecasts s h room ≡ rejects (check s then bad_horizon)
  pub cells : (cells : List ℤ) → display_forecast_cells s h cells ≡ cells

-- computed: a level that rises by one reading unit a step
abbrev pub rising : State
rising = state_of false 1 0 0 0 0 65536 (pos 0) (pos 65536) [] 0 0 no_score

pub record AtTheLimit : Type 0 where
  pub last : display_forecast rising 48 ≡ Ok (pos 3145728)
  pub next : display_forecast rising 49 ≡ rejects 11
  pub phone : forecast rising 49 ≡ Ok (pos 3211264)

-- for every state and every horizon
pub record DisplayLaws : Type 0 where
  pub within : (s : State) (h : ℕ) → h ≤ 48 → SameAsPhone s h
  pub above : (s : State) (h : ℕ) → 48 < h → AboveLimit s h
  pub limit : AtTheLimit
