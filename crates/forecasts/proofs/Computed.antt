-- The pins, by computing.
use mathlib.Core.Path.{refl}
use Rattle.integers.specs.Below.{all_below}
use Rattle.calendars.specs.Calendars.{rising, disjoint}
use Rattle.state.specs.Fixed.{R, share}
use Rattle.state.specs.Scores.{sum_of, sum_ok}
use Rattle.state.specs.States.{check, parameters_code}
use Rattle.calendars.specs.Turns.{next_index}
use Rattle.ets.specs.Calendars.{calendar_code}
use Rattle.forecasts.specs.Forecasts.{trend_at, trend_line, season_at, forecast_of, forecast_code_to, forecast_to, forecast_list, forecasts_code_to, forecast_cells_to}
use Rattle.forecasts.specs.Calendars.{index_from, forecast_by, forecast_code_on, forecast_on}
use Rattle.forecasts.specs.Pins.{ForecastPins, RejectionPins, Pins}

forecast-pins : ForecastPins
unfolding all_below rising disjoint R share sum_of sum_ok check parameters_code next_index calendar_code trend_at trend_line forecast_code_to index_from forecast_by forecast_code_on forecast_on
forecast-pins =
    record { skips_to_3 = refl; goes_on_to_4 = refl; uses_2 = refl; uses_2_again = refl; beyond = refl }

rejection-pins : RejectionPins
unfolding all_below rising disjoint R share sum_of sum_ok check parameters_code next_index calendar_code trend_at trend_line season_at forecast_of forecast_code_to forecast_to forecast_list forecasts_code_to forecast_cells_to index_from forecast_by forecast_code_on forecast_on
rejection-pins = record { state_first = refl; after_11 = refl; cells_kept = refl; short_kept = refl }

pub pins : Pins
pins = record { forecasts = forecast-pins; rejections = rejection-pins }
