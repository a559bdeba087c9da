-- The pins, computed.
use mathlib.Core.Path.{refl}
use mathlib.Core.List.{[], map}
use Prim.Native.Nat.{ℕ, ◌<◌}
use native.Mathlib.Omega.{arith}
use lib.Dec.{le→leb, leb→le, lit<}
use lib.IntN.{pos}
use lib.ListN.{get_or-replicate}
use borrow.Author.Tests.{eq-eqb}
use Rattle.state.specs.Fixed.{R, share}
use Rattle.integers.specs.Below.{all_below}
use Rattle.state.specs.Rejections.{rejection_of}
use Rattle.state.specs.Scores.{sum_of, sum_ok}
use Rattle.state.specs.States.{check, parameters_code}
use Rattle.state.specs.Switching.{switch_to_even}
use Rattle.calendars.specs.Turns.{next_index}
use Rattle.ets.specs.Steps.{damped_trend, season_by, new_level, new_trend, new_season, seasonal_by, square_of, score_after, step_code_by, advanced, missing_code, step, missing, residual}
use Rattle.ets.specs.Batches.{take_code_by, after_take_by, run_by, batch_run, batch, batch_levels}
use Rattle.forecasts.specs.Forecasts.{trend_at, trend_line, season_at, forecast_of, forecast_list, forecast_to, forecast_cells_to, forecasts_to, forecast_code_to, forecasts_code_to}
use Rattle.layout.specs.Bytes.{from_bytes}
use Rattle.layout.specs.CommandTable.{command_size, is_command}
use Rattle.snapshot.specs.Snapshots.{due_code, model_code, level_code, score_code, season_code, position_code, scan_seasons, scan, cells_at, decoded}
use Rattle.slices.specs.Slices.{in_place_code}
use Rattle.saving.specs.Encoding.{to_bytes, model_bytes, level_bytes, score_bytes, season_bytes, seasons_bytes, position_bytes, encoded}
use Rattle.in_place.specs.InPlace.{in_place_step_code, in_place_step_bytes, in_place_missing_code, in_place_missing_bytes, in_place_switch_bytes, in_place_forecast_code, in_place_forecast}
use Rattle.traces.specs.Calls.{result, after}
use Rattle.traces.specs.Operations.{on_state, operate}
use Rattle.drift.specs.Exact.{exact_damped, exact_residual_by, adjusted, exact_season_by, exact_take_by, exact_batch_by, exact_trend_at, exact_line, exact_forecast, exact_after, expected_levels_by, up_to, expected, beside_after, expected_by}
use Rattle.drift.specs.Limits.{AtMost, WithinLimit, AllWithin}
use Rattle.drift.specs.Components.{StepError}
use Rattle.drift.specs.Pins.{seasonal, damped, standing, ClaimOf, OpensTrendless, Refused, beside, creep, creep_across, Attained, compared, falling, gaps, creeping, Needed, opening, relative, calls, Shown, Pins}
use Rattle.drift.proofs.Runs.{first}
use Rattle.drift.proofs.Drift.{demand3}

index-refused : (k : ℕ) → k < 48 → ClaimOf (seasonal 48 32768 32768 (pos 0) []) (standing (pos 0) 0 k (pos 1)) [] → ⊥
unfolding AllWithin AtMost
index-refused k l h =
    le→leb 2 0 (rw (get_or-replicate 48 k (pos 0) (pos 0) l, eq-eqb k k refl) at ((h refl).seasons k (omega arith)))

refused : Refused
unfolding AllWithin AtMost WithinLimit operate beside_after expected_by result check parameters_code all_below sum_of sum_ok R share damped_trend season_by residual new_level new_trend new_season seasonal_by square_of score_after next_index step_code_by take_code_by after_take_by run_by batch_run batch batch_levels trend_at trend_line season_at forecast_of forecast_code_to forecast_to forecast_list forecasts_code_to forecasts_to forecast_cells_to from_bytes to_bytes command_size is_command due_code model_code level_code score_code season_code scan_seasons position_code scan cells_at decoded model_bytes level_bytes score_bytes season_bytes seasons_bytes position_bytes encoded in_place_code in_place_forecast_code in_place_forecast in_place_switch_bytes switch_to_even exact_damped exact_residual_by adjusted exact_season_by exact_take_by exact_trend_at exact_line exact_forecast expected_levels_by up_to exact_after expected
refused =
    record {
      level_one = λ h. le→leb _ _ (h refl).level;
      level_three = λ h. le→leb _ _ (h refl).level;
      places = index-refused;
      cell = λ h. le→leb _ _ (first (h.0 refl));
      forecast = λ h. le→leb _ _ ((first (h.0 refl) refl).0 refl);
      forecasts = λ h. le→leb _ _ ((first (h.0 refl) refl).0 refl);
      display = λ h. le→leb _ _ ((first (h.0 refl) refl).0 refl);
      display_all = λ h. le→leb _ _ ((first (h.0 refl) refl).0 refl);
      in_place = λ h. le→leb _ _ ((first (h.0 refl) refl).0 refl);
      switched = λ h. le→leb _ _ ((first (h.1.0 refl) refl).0 refl);
      switched_in_place = λ h. le→leb _ _ ((first (h.1.0 refl) refl).0 refl);
      carried = λ h. le→leb _ _ ((first (h.1.0 refl) refl).0 refl);
      season_two = λ h. le→leb _ _ ((first (h.0 refl) refl).1 refl refl);
      season_three = λ h. le→leb _ _ ((first (h.0 refl) refl).1 refl refl);
      damped_one = λ h. le→leb _ _ h;
      damped_two = λ h. le→leb _ _ h;
      step = λ h. le→leb _ _ h;
      missing = λ h. le→leb _ _ h;
      missing_flat = λ h. le→leb _ _ h;
      damped_last = λ h. le→leb _ _ h;
    }

attained : Attained
unfolding creep creep_across after beside result check parameters_code all_below sum_of sum_ok R share damped_trend season_by residual new_level new_trend new_season seasonal_by square_of score_after next_index advanced step_code_by step switch_to_even trend_at trend_line season_at forecast_of exact_damped exact_residual_by adjusted exact_season_by exact_trend_at exact_line exact_forecast exact_after
attained = record { half = refl; plain_sixteen = refl; even_sixteen = refl; across = refl; step = leb→le _ _ tt; missing = refl; damped_one = refl; damped_eight = leb→le _ _ tt }

needed : Needed
unfolding AtMost WithinLimit falling gaps after beside result check parameters_code all_below sum_of sum_ok R share damped_trend season_by residual new_level new_trend new_season seasonal_by square_of score_after next_index step_code_by step advanced missing_code missing trend_at trend_line season_at forecast_of forecast_code_to forecast_to exact_damped exact_residual_by adjusted exact_season_by exact_trend_at exact_line exact_forecast exact_after expected
needed =
    record {
      level_alone = (refl, refl, λ h. le→leb _ _ h);
      answer = refl;
      judged = refl;
      missing = λ h. le→leb _ _ h;
      unclaimed = λ z. absurd (omega arith);
    }

opens : OpensTrendless opening
unfolding check parameters_code all_below sum_of sum_ok
opens = (record { typed = record { cells = refl; low = lit< tt }; passes = refl }, refl)

opens_outside : OpensTrendless (creeping (pos 0))
unfolding check parameters_code all_below sum_of sum_ok
opens_outside = (record { typed = record { cells = refl; low = lit< tt }; passes = refl }, refl)

opens_relative : OpensTrendless relative
unfolding check parameters_code all_below sum_of sum_ok
opens_relative = (record { typed = record { cells = refl; low = lit< tt }; passes = refl }, refl)

stepped : StepError (damped 0 1 (pos 0) (pos 1000000)) (pos 0)
unfolding AtMost R share damped_trend season_by residual new_level new_trend new_season seasonal_by square_of score_after next_index exact_damped exact_residual_by adjusted exact_season_by
stepped = record { level = leb→le _ _ tt; trend = leb→le _ _ tt; seasons = λ k l. absurd (omega arith) }

shown : Shown
unfolding rejection_of compared calls after result switch_to_even in_place_switch_bytes check parameters_code all_below sum_of sum_ok R share damped_trend season_by residual new_level new_trend new_season seasonal_by square_of score_after next_index step_code_by advanced missing_code step missing take_code_by after_take_by run_by batch_run batch batch_levels trend_at trend_line season_at forecast_of forecast_code_to forecast_to forecast_list forecasts_code_to forecasts_to forecast_cells_to from_bytes to_bytes command_size is_command due_code model_code level_code score_code season_code scan_seasons position_code scan cells_at decoded model_bytes level_bytes score_bytes season_bytes seasons_bytes position_bytes encoded in_place_code in_place_step_code in_place_step_bytes in_place_missing_code in_place_missing_bytes in_place_forecast_code in_place_forecast exact_damped exact_residual_by adjusted exact_season_by exact_take_by exact_batch_by exact_trend_at exact_line exact_forecast exact_after expected_levels_by up_to expected
shown = record { step = stepped; opens = opens; opens_outside = opens_outside; opens_relative = opens_relative; holds = demand3 opening opens.0 (map on_state calls); rule_before = refl; rule_after = refl; short = refl; compares = refl }

pub pins : Pins
pins = record { refused = refused; attained = attained; needed = needed; shown = shown }
