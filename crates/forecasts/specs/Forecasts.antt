-- Document 01, "Forecast and variance": the forecast for one horizon and for all.
use Rattle.std.specs.Prelude.{ℕ, zero, suc, ◌+◌, ◌-◌, ◌%◌, Bool, cond, ◌&&◌, List, [], ◌∷◌, ◌++◌, leb, ℤ, pos, ◌+ℤ◌, length, drop, get_or}
use Rattle.state.specs.Rejections.{unless, ◌then◌, accepting, outcome, answer, bad_parameter, bad_value, bad_horizon, short_buffer, Outcome, Answer}
use Rattle.state.specs.Fixed.{share, in_range}
use Rattle.models.specs.Models.{has_season, ties_to_even}
use Rattle.state.specs.States.{check}
use Rattle.state.specs.declared.State.{State}

-- d1 = R(F × b), and each next d is R(F × the one before), by the rounding rule
unfoldable pub trend_at : Bool → ℕ → ℤ → ℕ → ℤ
trend_at even F b zero = b
trend_at even F b (suc j) = share even F (trend_at even F b j)

-- l, plus d1 to dh
unfoldable pub trend_line : Bool → ℤ → ℕ → ℤ → ℕ → ℤ
trend_line even l F b zero = l
trend_line even l F b (suc h) = trend_line even l F b h +ℤ trend_at even F b (suc h)

-- with a season, its value at place (p + h − 1) modulo m
unfoldable pub season_at : State → ℕ → ℤ
season_at s h = cond (has_season s.model) (get_or s.seasonal ((s.index + h - 1) % s.period) (pos 0)) (pos 0)

unfoldable pub forecast_of : State → ℕ → ℤ
forecast_of s h = trend_line (ties_to_even s.model) s.level s.phi s.trend h +ℤ season_at s h

-- the horizon h is 1 to 512; on the bedside display 1 to 48 (document 02, W-206)
abbrev pub max_horizon : ℕ
max_horizon = 512

abbrev pub display_horizon : ℕ
display_horizon = 48

abbrev pub horizon_ok : ℕ → ℕ → Bool
horizon_ok limit h = leb 1 h && leb h limit

-- what rejects a forecast, or 0: the state's checks, then a horizon above the limit
unfoldable pub forecast_code_to : ℕ → State → ℕ → ℕ
forecast_code_to limit s h = check s then unless (horizon_ok limit h) bad_horizon

-- the call for one horizon
unfoldable pub forecast_to : ℕ → State → ℕ → Answer
forecast_to limit s h = answer (forecast_code_to limit s h) (forecast_of s h)

-- the forecasts for the horizons 1 to h
unfoldable pub forecast_list : State → ℕ → List ℤ
forecast_list s zero = []
forecast_list s (suc h) = forecast_list s h ++ (forecast_of s (suc h) ∷ [])

unfoldable pub forecasts_code_to : ℕ → State → ℕ → ℕ → ℕ
forecasts_code_to limit s h room = forecast_code_to limit s h then unless (leb h room) short_buffer

-- a call for all horizons fills the first h cells only, and none where it is rejected
unfoldable pub forecasts_to : ℕ → State → ℕ → ℕ → Outcome
forecasts_to limit s h room = outcome (forecasts_code_to limit s h room)

unfoldable pub forecast_cells_to : ℕ → State → ℕ → List ℤ → List ℤ
forecast_cells_to limit s h cells =
    accepting (forecasts_code_to limit s h (length cells)) (forecast_list s h ++ drop h cells) (λ _. cells)

-- ---- the calls, with horizons up to 512

abbrev pub forecast_code : State → ℕ → ℕ
forecast_code = forecast_code_to max_horizon

abbrev pub forecast : State → ℕ → Answer
forecast = forecast_to max_horizon

abbrev pub forecasts_code : State → ℕ → ℕ → ℕ
forecasts_code = forecasts_code_to max_horizon

abbrev pub forecasts : State → ℕ → ℕ → Outcome
forecasts = forecasts_to max_horizon

abbrev pub forecast_cells : State → ℕ → List ℤ → List ℤ
forecast_cells = forecast_cells_to max_horizon

-- ---- the bedside display's calls, with horizons up to 48

abbrev pub display_forecast : State → ℕ → Answer
display_forecast = forecast_to display_horizon

abbrev pub display_forecasts : State → ℕ → ℕ → Outcome
display_forecasts = forecasts_to display_horizon

abbrev pub display_forecast_cells : State → ℕ → List ℤ → List ℤ
display_forecast_cells = forecast_cells_to display_horizon

-- ---- the call on numbers: the rounding rule, l, F, b and the season's value for the horizon; 7, 9, then 11
abbrev pub forecast_from_code : ℤ → ℕ → ℤ → ℤ → ℕ → ℕ
forecast_from_code l F b s h =
    unless (leb F 65536) bad_parameter
    then unless (in_range l && in_range b && in_range s) bad_value
    then unless (horizon_ok max_horizon h) bad_horizon

unfoldable pub forecast_from : Bool → ℤ → ℕ → ℤ → ℤ → ℕ → Answer
forecast_from even l F b s h = answer (forecast_from_code l F b s h) (trend_line even l F b h +ℤ s)
