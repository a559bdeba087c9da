-- Computed: the walk of a forecast by lists of clock changes (document 02, W-208), on the season of `ets`'s pins, and what a rejected call leaves.
use Rattle.std.specs.Prelude.{[], ◌∷◌, ◌≡◌, pos, Ok}
use Rattle.ets.specs.Pins.{units, hourly, skips, repeats, beyond}
use Rattle.forecasts.specs.Forecasts.{forecast, forecast_cells}
use Rattle.forecasts.specs.Calendars.{forecast_on}
use Rattle.state.specs.Rejections.{rejects}

-- ---- a forecast: its second step from place 1 has the count of the state and 1
pub record ForecastPins : Type 0 where
  pub skips_to_3 : forecast_on (skips (101 ∷ [])) (hourly 1 100) 2 ≡ Ok (units 3)
  pub goes_on_to_4 : forecast_on (skips (101 ∷ [])) (hourly 1 100) 3 ≡ Ok (units 4)
  pub uses_2 : forecast_on (repeats (101 ∷ [])) (hourly 1 100) 2 ≡ Ok (units 2)
  pub uses_2_again : forecast_on (repeats (101 ∷ [])) (hourly 1 100) 3 ≡ Ok (units 2)
  -- beyond 2^48, where no reading is taken any more
  pub beyond : forecast_on (skips (281474976710657 ∷ [])) (hourly 1 281474976710656) 2 ≡ Ok (units 3)

-- ---- the state's checks before 11, 11 before 12, and 20 after them; a rejected call touches no cell
pub record RejectionPins : Type 0 where
  pub state_first : forecast beyond 513 ≡ rejects 9
  pub after_11 : forecast_on (skips (7 ∷ 7 ∷ [])) (hourly 0 0) 513 ≡ rejects 11
  pub cells_kept : forecast_cells (hourly 0 0) 513 (pos 7 ∷ []) ≡ pos 7 ∷ []
  pub short_kept : forecast_cells (hourly 0 0) 2 (pos 7 ∷ []) ≡ pos 7 ∷ []

pub record Pins : Type 0 where
  pub forecasts : ForecastPins
  pub rejections : RejectionPins
