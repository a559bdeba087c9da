-- Document 02, W-208: the forecasts that walk a calendar of clock changes, with refusal 20 right after 12.
use Rattle.std.specs.Prelude.{ℕ, zero, suc, ◌+◌, List, [], ◌∷◌, ◌++◌, ℤ, pos, ◌+ℤ◌, length, drop, get_or}
use Rattle.calendars.specs.Calendars.{Calendar}
use Rattle.state.specs.Rejections.{◌then◌, accepting, outcome, answer, Outcome, Answer}
use Rattle.models.specs.Models.{ties_to_even}
use Rattle.state.specs.declared.State.{State}
use Rattle.calendars.specs.Turns.{turn_from}
use Rattle.ets.specs.Calendars.{calendar_code}
use Rattle.forecasts.specs.Forecasts.{trend_line, forecast_code, forecasts_code}

-- p after j steps from place p and count n: step j + 1 has the count n + j, beyond 2^48 too
unfoldable pub index_from : Calendar → ℕ → ℕ → ℕ → ℕ → ℕ
index_from k m p n zero = p
index_from k m p n (suc j) = (turn_from k m (index_from k m p n j) (n + j)).next

-- the place of step h is the one that it uses (0 is no horizon)
abbrev pub place_from : Calendar → ℕ → ℕ → ℕ → ℕ → ℕ
place_from k m p n zero = p
place_from k m p n (suc j) = (turn_from k m (index_from k m p n j) (n + j)).used

abbrev pub place_by : Calendar → State → ℕ → ℕ
place_by k s h = place_from k s.period s.index s.count h

-- l, plus d1 to dh, plus the season's value at that place
unfoldable pub forecast_by : Calendar → State → ℕ → ℤ
forecast_by k s h =
    trend_line (ties_to_even s.model) s.level s.phi s.trend h +ℤ get_or s.seasonal (place_by k s h) (pos 0)

-- the forecasts for the horizons 1 to h
unfoldable pub forecast_list_by : Calendar → State → ℕ → List ℤ
forecast_list_by k s zero = []
forecast_list_by k s (suc h) = forecast_list_by k s h ++ (forecast_by k s (suc h) ∷ [])

-- ---- the calls, with horizons up to 512

unfoldable pub forecast_code_on : Calendar → State → ℕ → ℕ
forecast_code_on k s h = forecast_code s h then calendar_code s.period k

unfoldable pub forecast_on : Calendar → State → ℕ → Answer
forecast_on k s h = answer (forecast_code_on k s h) (forecast_by k s h)

unfoldable pub forecasts_code_on : Calendar → State → ℕ → ℕ → ℕ
forecasts_code_on k s h room = forecasts_code s h room then calendar_code s.period k

unfoldable pub forecasts_on : Calendar → State → ℕ → ℕ → Outcome
forecasts_on k s h room = outcome (forecasts_code_on k s h room)

unfoldable pub forecast_cells_on : Calendar → State → ℕ → List ℤ → List ℤ
forecast_cells_on k s h cells =
    accepting (forecasts_code_on k s h (length cells)) (forecast_list_by k s h ++ drop h cells) (λ _. cells)
