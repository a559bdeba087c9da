-- The run, computed.
use mathlib.Core.Path.{refl}
use lib.Dec.{le→leb, lit<}
use Rattle.calendars.specs.Calendars.{rising, disjoint}
use Rattle.state.specs.Fixed.{R, share}
use Rattle.integers.specs.Below.{all_below}
use Rattle.state.specs.Rejections.{rejection_of}
use Rattle.state.specs.Scores.{sum_of, sum_ok}
use Rattle.state.specs.States.{check, parameters_code}
use Rattle.calendars.specs.Turns.{next_index}
use Rattle.ets.specs.Steps.{damped_trend, season_by, new_level, new_trend, new_season, seasonal_by, square_of, score_after, step_code_by, advanced, missing_code, step, residual}
use Rattle.ets.specs.Batches.{take_code_by, after_take_by, run_by, batch_run, batch, batch_levels}
use Rattle.ets.specs.Calendars.{calendar_code, step_code_on, missing_code_on, batch_code_on, step_on, missing_on, batch_run_on, batch_on, batch_levels_on}
use Rattle.forecasts.specs.Forecasts.{trend_at, trend_line, season_at, forecast_of, forecast_code_to, forecasts_code_to}
use Rattle.forecasts.specs.Calendars.{index_from, forecast_by, forecast_list_by, forecast_code_on, forecast_on, forecasts_code_on, forecasts_on, forecast_cells_on}
use Rattle.traces.specs.Calls.{result, after}
use Rattle.drift.specs.Exact.{exact_damped, exact_residual_by, adjusted, exact_season_by, exact_take_by, exact_batch_by, exact_trend_at, exact_line, exact_forecast, exact_forecast_by, exact_after, expected_levels_by, up_to, expected}
use Rattle.drift.specs.Limits.{AtMost}
use Rattle.drift.specs.Pins.{beside, compared}
use Rattle.drift_runs.specs.ClockRuns.{week_on, ClocksWander}

pub wander : ClocksWander
unfolding rejection_of week_on AtMost forecast_of season_at exact_forecast beside compared after result rising disjoint check parameters_code all_below sum_of sum_ok R share damped_trend season_by residual new_level new_trend new_season seasonal_by square_of score_after next_index step_code_by advanced missing_code step take_code_by after_take_by run_by batch_run batch batch_levels calendar_code step_code_on missing_code_on batch_code_on step_on missing_on batch_run_on batch_on batch_levels_on trend_at trend_line forecast_code_to forecasts_code_to index_from forecast_by forecast_list_by forecast_code_on forecast_on forecasts_code_on forecasts_on forecast_cells_on exact_damped exact_residual_by adjusted exact_season_by exact_take_by exact_batch_by exact_trend_at exact_line exact_forecast_by exact_after expected_levels_by up_to expected
wander =
    record {
      opens = (record { typed = record { cells = refl; low = lit< tt }; passes = refl }, refl);
      readings = refl;
      gaps = refl;
      effects = refl;
      place = refl;
      beyond = λ h. le→leb _ _ h;
    }
