-- The pins of clock changes, computed.
use mathlib.Core.Path.{refl, sym}
use mathlib.Core.Bool.{false≢true}
use mathlib.Core.List.{map}
use native.Mathlib.Omega.{arith}
use lib.Dec.{le→leb, lit<}
use Rattle.calendars.specs.Calendars.{rising, disjoint}
use Rattle.state.specs.Fixed.{R, share}
use Rattle.integers.specs.Below.{all_below}
use Rattle.state.specs.Rejections.{rejection_of}
use Rattle.state.specs.Scores.{sum_of, sum_ok}
use Rattle.state.specs.States.{check, parameters_code}
use Rattle.calendars.specs.Turns.{next_index}
use Rattle.ets.specs.Steps.{damped_trend, season_by, new_level, new_trend, new_season, seasonal_by, square_of, score_after, step_code_by, advanced, missing_code, step, residual}
use Rattle.ets.specs.Batches.{take_code_by, after_take_by, run_by, batch_run, batch, batch_levels}
use Rattle.ets.specs.Calendars.{calendar_code, step_code_on, missing_code_on, batch_code_on, step_on, missing_on, batch_run_on, batch_on, batch_levels_on}
use Rattle.forecasts.specs.Forecasts.{trend_at, trend_line, forecast_code_to, forecasts_code_to}
use Rattle.forecasts.specs.Calendars.{index_from, forecast_by, forecast_list_by, forecast_code_on, forecast_on, forecasts_code_on, forecasts_on, forecast_cells_on}
use Rattle.traces.specs.Calls.{result, after}
use Rattle.traces.specs.Operations.{on_state, operate}
use Rattle.drift.specs.Exact.{exact_damped, exact_residual_by, adjusted, exact_season_by, exact_take_by, exact_batch_by, exact_trend_at, exact_line, exact_forecast_by, exact_after, expected_levels_by, up_to, expected, beside_after, expected_by}
use Rattle.drift.specs.Limits.{AtMost, WithinLimit, AllWithin}
use Rattle.drift.specs.Pins.{OpensTrendless, beside, compared}
use Rattle.drift.specs.ClockPins.{ClocksRefused, ClocksNeeded, day, clocks, ClocksShown, ClockPins}
use Rattle.drift.proofs.Runs.{first}
use Rattle.drift.proofs.Drift.{demand3}

refused : ClocksRefused
unfolding AllWithin AtMost WithinLimit operate beside_after expected_by result rising disjoint check parameters_code all_below sum_of sum_ok R share damped_trend season_by residual new_level new_trend new_season seasonal_by square_of score_after next_index step_code_by take_code_by after_take_by run_by calendar_code step_code_on batch_code_on step_on batch_run_on batch_on batch_levels_on trend_at trend_line forecast_code_to forecasts_code_to index_from forecast_by forecast_list_by forecast_code_on forecast_on forecasts_code_on forecasts_on forecast_cells_on exact_damped exact_residual_by adjusted exact_season_by exact_take_by exact_trend_at exact_line exact_forecast_by expected_levels_by up_to exact_after expected
refused =
    record {
      forecast = λ h. le→leb _ _ ((first (h.0 refl) refl).1 refl refl);
      forecasts = λ h. le→leb _ _ ((first (h.0 refl) refl).1 refl refl);
      cell = λ h. le→leb _ _ (first (h.0 refl));
      carried = λ h. le→leb _ _ ((first (h.1.0 refl) refl).1 refl refl);
    }

needed : ClocksNeeded
unfolding AtMost WithinLimit
needed =
    record {
      claimed = λ h. le→leb _ _ ((h refl).1 refl refl);
      unclaimed = λ z F h power. λ _. ((λ e. absurd (false≢true (sym e))), λ e u. absurd (omega arith));
      seasonless = λ h. le→leb _ _ ((h refl).0 refl);
    }

opens : OpensTrendless day
unfolding check parameters_code all_below sum_of sum_ok
opens = (record { typed = record { cells = refl; low = lit< tt }; passes = refl }, refl)

shown : ClocksShown
unfolding rejection_of clocks beside compared after result rising disjoint check parameters_code all_below sum_of sum_ok R share damped_trend season_by residual new_level new_trend new_season seasonal_by square_of score_after next_index step_code_by advanced missing_code step take_code_by after_take_by run_by batch_run batch batch_levels calendar_code step_code_on missing_code_on batch_code_on step_on missing_on batch_run_on batch_on batch_levels_on trend_at trend_line forecast_code_to forecasts_code_to index_from forecast_by forecast_list_by forecast_code_on forecast_on forecasts_code_on forecasts_on forecast_cells_on exact_damped exact_residual_by adjusted exact_season_by exact_take_by exact_batch_by exact_trend_at exact_line exact_forecast_by exact_after expected_levels_by up_to expected
shown =
    record {
      skipped = record { place = refl; steps = refl; effects = refl; second = refl; third = refl; fourth = refl };
      repeated = record { place = refl; steps = refl; effects = refl; second = refl; third = refl; fourth = refl };
      missed = record { place = refl; steps = refl; effects = refl; second = refl; third = refl; fourth = refl };
      unlisted = record { place = refl; steps = refl; effects = refl; second = refl; third = refl; fourth = refl };
      plain = record { place = refl; steps = refl; effects = refl; second = refl; third = refl; fourth = refl };
      opens = opens;
      holds = demand3 day opens.0 (map on_state clocks);
      stands = record { place = refl; steps = refl; effects = refl; second = refl; third = refl; fourth = refl };
      place = refl;
      gaps = refl;
      compares = refl;
    }

pub clock-pins : ClockPins
clock-pins = record { refused = refused; needed = needed; shown = shown }
