-- The pins of kept states, computed.
use Prim.Native.Nat.{ℕ, zero, suc}
use mathlib.Core.Path.{◌≡◌, refl, subst}
use mathlib.Core.Bool.{Bool, true, ◌&&◌}
use mathlib.Core.List.{List, [], ◌∷◌, ◌++◌}
use lib.Dec.{ltb, le→leb, lit<}
use borrow.Author.Tests.{ltb-true}
use Rattle.integers.specs.Below.{all_below}
use Rattle.integers.proofs.Tests.{both}
use Rattle.state.specs.Fixed.{R, share}
use Rattle.state.specs.Scores.{sum_of, sum_ok}
use Rattle.state.specs.States.{check, parameters_code}
use Rattle.state.specs.declared.State.{State}
use Rattle.calendars.specs.Turns.{next_index}
use Rattle.ets.specs.Steps.{damped_trend, season_by, new_level, new_trend, new_season, seasonal_by, square_of, score_after, step_code_by, advanced, missing_code, step, missing, residual}
use Rattle.ets.specs.Batches.{take_code_by, after_take_by, run_by, batch_run, batch, batch_levels}
use Rattle.forecasts.specs.Forecasts.{max_horizon, trend_at, trend_line, season_at, forecast_of, forecast_list, forecast_to, forecast_cells_to, forecasts_to, forecast_code_to, forecasts_code_to}
use Rattle.layout.specs.Bytes.{AreBytes, from_bytes}
use Rattle.layout.specs.CommandTable.{command_size, is_command}
use Rattle.snapshot.specs.Snapshots.{due_code, model_code, level_code, score_code, season_code, position_code, scan_seasons, scan, cells_at, decoded, read}
use Rattle.saving.specs.Encoding.{to_bytes, model_bytes, level_bytes, score_bytes, season_bytes, seasons_bytes, position_bytes, encoded}
use Rattle.checkpoints.specs.Checkpoints.{store_code, stored_bytes, is_held, restore_code, restore}
use Rattle.traces.specs.Calls.{Forecast, result}
use Rattle.traces.specs.Operations.{Standing, standing_of, Operation, on_state, Store, Restore, Open, operate}
use Rattle.drift.specs.Exact.{exact_damped, exact_residual_by, adjusted, exact_season_by, exact_take_by, exact_batch_by, exact_trend_at, exact_line, exact_forecast, exact_after, expected_levels_by, up_to, expected, Run, Beside, beside_after, expected_by}
use Rattle.drift.specs.Limits.{AtMost, WithinLimit, AllWithin, Claim}
use Rattle.drift.specs.Pins.{OpensTrendless}
use Rattle.drift.specs.CheckpointPins.{one, apart, ForecastAfter, CheckpointsRefused, room, damped_room, holiday, afterwards, compared_over, beside_over, CheckpointsShown, CheckpointPins}
use Rattle.drift.proofs.Runs.{first}
use Rattle.drift.proofs.Drift.{demand3}

-- ---- the bytes of a group, one by one
are_bytes : List ℕ → Bool
are_bytes [] = true
are_bytes (b ∷ bs) = ltb b 256 && are_bytes bs

are-bytes : (bs : List ℕ) → are_bytes bs ≡ true → AreBytes bs
unfolding are_bytes
are-bytes [] e i = record { fits = lit< tt }
are-bytes (b ∷ bs) e zero = record { fits = ltb-true b 256 (both (ltb b 256) (are_bytes bs) e).0 }
are-bytes (b ∷ bs) e (suc i) = are-bytes bs (both (ltb b 256) (are_bytes bs) e).1 i

bytes_one : AreBytes (encoded one)
unfolding are_bytes to_bytes model_bytes level_bytes score_bytes season_bytes seasons_bytes position_bytes encoded
bytes_one = are-bytes (encoded one) refl

bytes-damped : AreBytes (encoded damped_room)
unfolding are_bytes to_bytes model_bytes level_bytes score_bytes season_bytes seasons_bytes position_bytes encoded
bytes-damped = are-bytes (encoded damped_room) refl

few : AreBytes (0x10 ∷ [])
unfolding are_bytes
few = are-bytes (0x10 ∷ []) refl

-- ---- a forecast after a list, where the state and the exact recursion are again those of the start: the list is computed once
standing_over : Standing → List Operation → Standing
standing_over a [] = a
standing_over a (o ∷ os) = standing_over (operate a o).standing os

last-claim : (os : List Operation) (o : Operation) (a : Standing) (b : Beside) → Claim a b (os ++ (o ∷ [])) → Claim (standing_over a os) (beside_over a b os) (o ∷ [])
unfolding AllWithin standing_over beside_over
last-claim [] o a b h = h
last-claim (p ∷ os) o a b h = last-claim os o (operate a p).standing (beside_after b (operate a p).notice) h.1

one_apart : (d : List ℕ) (kept : ℕ → Run) → Claim (record { state = one; checkpoints = d }) (record { run = apart.run; kept = kept }) (on_state (Forecast max_horizon 1) ∷ []) → ⊥
unfolding AllWithin AtMost WithinLimit operate expected_by result check parameters_code all_below sum_of sum_ok R share trend_at trend_line season_at forecast_of forecast_code_to forecast_to exact_trend_at exact_line exact_forecast expected
one_apart d kept h = le→leb _ _ ((first (h.0 refl) refl).0 refl)

still-apart : (a : Standing) (b : Beside) → a.state ≡ one → b.run ≡ apart.run → Claim a b (on_state (Forecast max_horizon 1) ∷ []) → ⊥
still-apart a b e f h =
    one_apart a.checkpoints b.kept (subst (λ (s : State). Claim (record { state = s; checkpoints = a.checkpoints }) (record { run = apart.run; kept = b.kept }) (on_state (Forecast max_horizon 1) ∷ [])) e (subst (λ (r : Run). Claim a (record { run = r; kept = b.kept }) (on_state (Forecast max_horizon 1) ∷ [])) f h))

fails-after : (os : List Operation) → (standing_over (standing_of one) os).state ≡ one → (beside_over (standing_of one) apart os).run ≡ apart.run → ForecastAfter os → ⊥
fails-after os e f h = still-apart _ _ e f (last-claim os (on_state (Forecast max_horizon 1)) (standing_of one) apart h)

refused : CheckpointsRefused
unfolding standing_over beside_over operate beside_after check parameters_code all_below sum_of sum_ok from_bytes to_bytes command_size is_command due_code model_code level_code score_code season_code scan_seasons position_code scan cells_at decoded read model_bytes level_bytes score_bytes season_bytes seasons_bytes position_bytes encoded store_code stored_bytes is_held restore_code restore
refused =
    record {
      bytes = bytes_one;
      few = few;
      stored = fails-after (Store 0 ∷ []) refl refl;
      restored = fails-after (Store 0 ∷ Open (encoded one) bytes_one ∷ Restore 0 ∷ []) refl refl;
      again = fails-after (Store 0 ∷ Restore 0 ∷ Open (encoded one) bytes_one ∷ Restore 0 ∷ []) refl refl;
      own_slot = fails-after (Store 0 ∷ Open (encoded one) bytes_one ∷ Store 1 ∷ Restore 0 ∷ []) refl refl;
      replaced = fails-after (Store 1 ∷ Open (encoded one) bytes_one ∷ Store 0 ∷ Restore 1 ∷ Store 0 ∷ Open (encoded one) bytes_one ∷ Restore 0 ∷ []) refl refl;
      nothing_held = fails-after (Restore 2 ∷ []) refl refl;
      no_name = fails-after (Store 4 ∷ Restore 4 ∷ []) refl refl;
      rejected = fails-after (Open (0x10 ∷ []) few ∷ []) refl refl;
    }

-- ---- the run
opens : OpensTrendless room
unfolding check parameters_code all_below sum_of sum_ok
opens = (record { typed = record { cells = refl; low = lit< tt }; passes = refl }, refl)

shown : CheckpointsShown
unfolding holiday afterwards compared_over beside_over operate beside_after expected_by result check parameters_code all_below sum_of sum_ok R share damped_trend season_by residual new_level new_trend new_season seasonal_by square_of score_after next_index step_code_by advanced missing_code step missing take_code_by after_take_by run_by batch_run batch batch_levels trend_at trend_line season_at forecast_of forecast_code_to forecast_to forecast_list forecasts_code_to forecasts_to forecast_cells_to from_bytes to_bytes command_size is_command due_code model_code level_code score_code season_code scan_seasons position_code scan cells_at decoded read model_bytes level_bytes score_bytes season_bytes seasons_bytes position_bytes encoded store_code stored_bytes is_held restore_code restore exact_damped exact_residual_by adjusted exact_season_by exact_take_by exact_batch_by exact_trend_at exact_line exact_forecast exact_after expected_levels_by up_to expected
shown = record { opens = opens; bytes = bytes-damped; counts = record { readings = refl; gaps = refl; steps = refl }; compares = refl }

pub checkpoint-pins : CheckpointPins
checkpoint-pins = record { refused = refused; shown = shown; holds = demand3 room shown.opens.0 (holiday shown.bytes ++ afterwards) }
