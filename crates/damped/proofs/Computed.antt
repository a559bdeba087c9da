-- The pins, computed.
use mathlib.Core.Path.{◌≡◌, refl}
use mathlib.Core.Bool.{Bool, true, false}
use mathlib.Core.List.{[], map}
use Prim.Native.Nat.{ℕ, ◌<◌}
use native.Mathlib.Omega.{arith}
use lib.Dec.{le→leb, leb→le, lit<}
use lib.IntN.{ℤ, pos}
use lib.Signed.{◌<ℤ◌}
use Rattle.state.specs.Fixed.{R, share}
use Rattle.integers.specs.Below.{all_below}
use Rattle.state.specs.Rejections.{rejection_of}
use Rattle.state.specs.Scores.{no_score, sum_of, sum_ok}
use Rattle.state.specs.States.{state_of, check, parameters_code}
use Rattle.state.specs.Switching.{switched, switch_to_even}
use Rattle.calendars.specs.Turns.{next_index}
use Rattle.ets.specs.Steps.{damped_trend, season_by, new_level, new_trend, new_season, seasonal_by, square_of, score_after, step_code_by, advanced, missing_code, step, missing, residual}
use Rattle.ets.specs.Batches.{take_code_by, after_take_by, run_by, batch_run, batch, batch_levels}
use Rattle.forecasts.specs.Forecasts.{trend_at, trend_line, season_at, forecast_of, forecast_list, forecast_to, forecast_cells_to, forecasts_to, forecast_code_to, forecasts_code_to}
use Rattle.layout.specs.Bytes.{from_bytes}
use Rattle.layout.specs.CommandTable.{command_size, is_command}
use Rattle.snapshot.specs.Snapshots.{due_code, model_code, level_code, score_code, season_code, position_code, scan_seasons, scan, cells_at, decoded}
use Rattle.slices.specs.Slices.{in_place_code}
use Rattle.saving.specs.Encoding.{to_bytes, model_bytes, level_bytes, score_bytes, season_bytes, seasons_bytes, position_bytes, encoded}
use Rattle.in_place.specs.InPlace.{in_place_step_code, in_place_step_bytes, in_place_missing_code, in_place_missing_bytes, in_place_switch_bytes, in_place_forecast_code, in_place_forecast}
use Rattle.traces.specs.Calls.{result, after}
use Rattle.traces.specs.Operations.{on_state, operate}
use Rattle.drift.specs.Exact.{Parameters, parameters_of, exact_damped, exact_residual_by, adjusted, exact_season_by, exact_take_by, exact_batch_by, exact_trend_at, exact_line, exact_forecast, exact_after, expected_levels_by, up_to, expected, beside_after, expected_by}
use Rattle.drift.specs.Limits.{AtMost, AllWithin}
use Rattle.drift.specs.Pins.{beside, compared}
use Rattle.drift.proofs.Runs.{first}
use Rattle.damped.specs.Limits.{scaled_k, GainsWithinOne, WithinOneStep, Contracting}
use Rattle.damped.specs.Pins.{OpensContracting, four, Refused, apart, rising, Attained, readings, Needed, opening, relative, calls, Shown, Pins}
use Rattle.damped.proofs.Damped.{one-step-forecasts}

-- a kind of the pins; its fields are computed
contracts : (c : Parameters) → c.trended ≡ true → c.phi < 65536 → c.seasonal ≡ false → GainsWithinOne c → pos 0 <ℤ scaled_k c → Contracting c
contracts c trended damped seasonless gains margin =
    record { trended = trended; damped = damped; seasonless = seasonless; gains = gains; margin = margin }

four-contracts : Contracting (parameters_of four)
four-contracts = contracts _ refl (lit< tt) refl (leb→le _ _ tt) (record { lt = tt })

refused : Refused
unfolding rejection_of AllWithin AtMost WithinOneStep operate beside_after expected_by result check parameters_code all_below sum_of sum_ok R share damped_trend season_by residual new_level new_trend new_season seasonal_by square_of score_after next_index step_code_by step trend_at trend_line season_at forecast_of forecast_code_to forecast_to forecast_list forecasts_code_to forecasts_to forecast_cells_to from_bytes to_bytes command_size is_command due_code model_code level_code score_code season_code scan_seasons position_code scan cells_at decoded model_bytes level_bytes score_bytes season_bytes seasons_bytes position_bytes encoded in_place_code in_place_forecast_code in_place_forecast in_place_switch_bytes switch_to_even exact_damped exact_residual_by adjusted exact_season_by exact_trend_at exact_line exact_forecast up_to exact_after expected
refused =
    record {
      forecast = λ h. le→leb _ _ (first (h.0 four-contracts) refl refl);
      forecasts = λ h. le→leb _ _ (first (h.0 four-contracts) refl refl);
      display = λ h. le→leb _ _ (first (h.0 four-contracts) refl refl);
      display_all = λ h. le→leb _ _ (first (h.0 four-contracts) refl refl);
      in_place = λ h. le→leb _ _ (first (h.0 four-contracts) refl refl);
      switched = λ h. le→leb _ _ (first (h.1.0 four-contracts) refl refl);
      carried = λ h. le→leb _ _ (first (h.1.0 four-contracts) refl refl);
      phi_quarter = λ h. le→leb _ _ (first (h.0 (contracts _ refl (lit< tt) refl (leb→le _ _ tt) (record { lt = tt }))) refl refl);
      phi_three_quarters = λ h. le→leb _ _ (first (h.0 (contracts _ refl (lit< tt) refl (leb→le _ _ tt) (record { lt = tt }))) refl refl);
    }

attained : Attained
unfolding rejection_of apart rising after beside result check parameters_code all_below sum_of sum_ok R share damped_trend season_by residual new_level new_trend new_season seasonal_by square_of score_after next_index step_code_by step switch_to_even trend_at trend_line season_at forecast_of exact_damped exact_residual_by adjusted exact_season_by exact_trend_at exact_line exact_forecast exact_after
attained = record { near = leb→le _ _ tt; near_even = leb→le _ _ tt; near_across = leb→le _ _ tt; beyond_half = leb→le _ _ tt }

-- what the types of a state of the pins hold; the rest is computed
opens : (outside : Bool) (model A B F : ℕ) (l b : ℤ) (count : ℕ) → check (state_of outside model 0 A B 0 F l b [] 0 count no_score) ≡ 0 → Contracting (parameters_of (state_of outside model 0 A B 0 F l b [] 0 count no_score)) → OpensContracting (state_of outside model 0 A B 0 F l b [] 0 count no_score)
opens outside model A B F l b count passes kind = (record { typed = record { cells = refl; low = lit< tt }; passes = passes }, kind)

needed : Needed
unfolding rejection_of AtMost WithinOneStep rising readings after beside result check parameters_code all_below sum_of sum_ok R share damped_trend season_by residual new_level new_trend new_season seasonal_by square_of score_after next_index step_code_by step advanced missing_code missing trend_at trend_line season_at forecast_of exact_damped exact_residual_by adjusted exact_season_by exact_trend_at exact_line exact_forecast exact_after
needed =
    record {
      missing = (opens _ _ _ _ _ _ _ _ refl (contracts _ refl (lit< tt) refl (leb→le _ _ tt) (record { lt = tt })), λ h. le→leb _ _ h);
      unclaimed = λ _ z. absurd (omega arith);
      gains = (refl, record { lt = tt }, λ h. le→leb _ _ h);
      margin = (refl, leb→le _ _ tt, record { lt = tt }, λ h. le→leb _ _ h);
      twice = (opens _ _ _ _ _ _ _ _ refl (contracts _ refl (lit< tt) refl (leb→le _ _ tt) (record { lt = tt })), λ h. le→leb _ _ h);
      horizon = (opens _ _ _ _ _ _ _ _ refl (contracts _ refl (lit< tt) refl (leb→le _ _ tt) (record { lt = tt })), λ h. le→leb _ _ h);
    }

opens-late : OpensContracting opening
unfolding check parameters_code all_below sum_of sum_ok
opens-late = opens _ _ _ _ _ _ _ _ refl (contracts _ refl (lit< tt) refl (leb→le _ _ tt) (record { lt = tt }))

opens_even : OpensContracting (switched opening)
unfolding check parameters_code all_below sum_of sum_ok
opens_even = opens _ _ _ _ _ _ _ _ refl (contracts _ refl (lit< tt) refl (leb→le _ _ tt) (record { lt = tt }))

opens_relative : OpensContracting relative
unfolding check parameters_code all_below sum_of sum_ok
opens_relative = opens _ _ _ _ _ _ _ _ refl (contracts _ refl (lit< tt) refl (leb→le _ _ tt) (record { lt = tt }))

shown : Shown
unfolding rejection_of compared calls after result switch_to_even in_place_switch_bytes check parameters_code all_below sum_of sum_ok R share damped_trend season_by residual new_level new_trend new_season seasonal_by square_of score_after next_index step_code_by advanced missing_code step missing take_code_by after_take_by run_by batch_run batch batch_levels trend_at trend_line season_at forecast_of forecast_code_to forecast_to forecast_list forecasts_code_to forecasts_to forecast_cells_to from_bytes to_bytes command_size is_command due_code model_code level_code score_code season_code scan_seasons position_code scan cells_at decoded model_bytes level_bytes score_bytes season_bytes seasons_bytes position_bytes encoded in_place_code in_place_step_code in_place_step_bytes in_place_missing_code in_place_missing_bytes in_place_forecast_code in_place_forecast exact_damped exact_residual_by adjusted exact_season_by exact_take_by exact_batch_by exact_trend_at exact_line exact_forecast exact_after expected_levels_by up_to expected
shown = record { opens = opens-late; opens_even = opens_even; opens_relative = opens_relative; holds = one-step-forecasts opening opens-late.0 (map on_state calls); rule_after = refl; compares = refl }

pub pins : Pins
pins = record { refused = refused; attained = attained; needed = needed; shown = shown }
