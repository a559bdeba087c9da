-- How each call works, handed in directly or in place.
use Prim.Native.Nat.{ℕ}
use mathlib.Core.Path.{◌≡◌, refl, sym, ◌∙◌, ap}
use mathlib.Core.Bool.{cond}
use mathlib.Core.List.{List}
use lib.Dec.{eqb}
use lib.IntN.{ℤ}
use lib.ListN.{length, take, drop}
use lib.Seq.{take_at}
use Rattle.calendars.specs.Calendars.{no_changes}
use Rattle.state.specs.Rejections.{◌then◌, outcome_code, answer_code, answer_value}
use Rattle.state.specs.States.{Typed, check}
use Rattle.state.specs.Switching.{switched, switch_to_even}
use Rattle.state.specs.declared.State.{State}
use Rattle.state.proofs.Switches.{checks-kept}
use Rattle.state.proofs.Answers.{outcome-code, answer-code}
use Rattle.state.proofs.Tests.{then-zero}
use Rattle.ets.specs.Steps.{step_code, missing_code, residual_of, after_reading, after_missing, step, missing}
use Rattle.ets.specs.Batches.{batch_code, batch_run, batch, batch_levels}
use Rattle.forecasts.specs.Forecasts.{forecast_code, forecast_of, forecast_list, forecast_code_to, forecasts_code_to, forecast_to, forecast_cells_to, forecasts_to}
use Rattle.forecasts.proofs.ForecastLaws.{list_length}
use Rattle.ets.proofs.Kept.{reading-typed, reading-kept, missing-kept}
use Rattle.snapshot.specs.Snapshots.{decoded}
use Rattle.slices.specs.Slices.{in_place_code}
use Rattle.saving.specs.Encoding.{encoded}
use Rattle.in_place.specs.InPlace.{room_code, rewrite_code, in_place_step_code, in_place_step_bytes, in_place_missing_code, in_place_missing_bytes, in_place_switch_bytes, in_place_forecast_code, in_place_forecast}
use Rattle.traces.specs.Calls.{Slice, slice_of, state_in, Call, Reading, Missing, Switch, Batch, Forecast, Forecasts, ReadingOn, MissingOn, BatchOn, ForecastOn, ForecastsOn, InPlaceReading, InPlaceMissing, InPlaceSwitch, InPlaceForecast, result}
use Rattle.traces.specs.Scores.{squares}
use Rattle.traces.proofs.Slices.{accepted-holds, untouched-holds, rewritten-holds}
use Rattle.forecasts.proofs.Codes.{code-step, code-missing, code-forecast, code-forecasts}
use Rattle.traces.proofs.Works.{by_code, unlisted, Works, reads, misses, switches, takes, forecasts-one, forecasts-all}
use Rattle.traces.proofs.Calendars.{reading-on, missing-on, batch-on, forecast-on, forecasts-on}

-- ---- handed in directly
pub reading-code : (s : State) (y : ℤ) → answer_code (step s y).residual ≡ step_code s y
unfolding step
reading-code s y = answer-code (step_code s y) (residual_of s y) (code-step s no_changes y)

pub missed-code : (s : State) → outcome_code (missing s).outcome ≡ missing_code s
unfolding missing
missed-code s = outcome-code (missing_code s) (code-missing s)

direct-reading : (s : State) (y : ℤ) → Works s (squares s (Reading y)) (result s (Reading y))
unfolding result squares step
direct-reading s y = rw (reading-code s y) (reads no_changes y (step_code s y) (λ z. (unlisted, z)))

direct-missing : (s : State) → Works s (squares s Missing) (result s Missing)
unfolding result squares missing
direct-missing s = rw (missed-code s) (misses no_changes (missing_code s) (λ z. (unlisted, z)))

direct-switch : (s : State) → Works s (squares s Switch) (result s Switch)
unfolding result squares switch_to_even
direct-switch s = switches (check s)

-- the first `taken` cells are the levels
batch-numbers : (s : State) (ys cells : List ℤ) → take (length (batch_run s ys (length cells)).levels) (batch_levels s ys cells) ≡ (batch_run s ys (length cells)).levels
unfolding batch_levels
batch-numbers s ys cells =
    take_at (batch_run s ys (length cells)).levels (drop (length (batch_run s ys (length cells)).levels) cells) (length (batch_run s ys (length cells)).levels) refl

direct-batch : (s : State) (ys cells : List ℤ) → Works s (squares s (Batch ys cells)) (result s (Batch ys cells))
unfolding result squares batch batch_run
direct-batch s ys cells = rw (batch-numbers s ys cells) (takes no_changes ys (batch_code s (length ys) (length cells)) (λ z. unlisted))

module _ (limit : ℕ) (s : State) (h : ℕ) where
  pub forecast-answer : forecast_code_to limit s h ≡ 0 → answer_value (forecast_to limit s h) ≡ forecast_of s h
  unfolding forecast_to
  forecast-answer z = rw z

  pub forecast-rejection : answer_code (forecast_to limit s h) ≡ forecast_code_to limit s h
  unfolding forecast_to
  forecast-rejection = answer-code (forecast_code_to limit s h) (forecast_of s h) (code-forecast s limit h)

  direct-forecast : Works s (squares s (Forecast limit h)) (result s (Forecast limit h))
  unfolding result squares
  direct-forecast =
      rw forecast-rejection (forecasts-one h (forecast_code_to limit s h) (answer_value (forecast_to limit s h)) forecast-answer)

  forecasts-numbers : (cells : List ℤ) → forecasts_code_to limit s h (length cells) ≡ 0 → take h (forecast_cells_to limit s h cells) ≡ forecast_list s h
  unfolding forecast_cells_to
  forecasts-numbers cells z = rw z (take_at (forecast_list s h) (drop h cells) h (list_length s h))

  direct-forecasts : (cells : List ℤ) → Works s (squares s (Forecasts limit h cells)) (result s (Forecasts limit h cells))
  unfolding result squares forecasts_to
  direct-forecasts cells =
      rw (outcome-code (forecasts_code_to limit s h (length cells)) (code-forecasts s limit h (length cells)))
      (forecasts-all h (forecasts_code_to limit s h (length cells)) (take h (forecast_cells_to limit s h cells)) (forecasts-numbers cells))

-- ---- in place
module _ (s : State) (full : Typed s) (ok : check s ≡ 0) (slice : Slice) where
  d : List ℕ
  d = slice_of s slice

  -- the rejection of the call, with that of the direct one
  abbrev both : (State → ℕ) → ℕ
  both code = rewrite_code d then code (decoded d)

  opened-is : in_place_code d ≡ 0 → decoded d ≡ s
  unfolding d
  opened-is z = accepted-holds s full ok slice z

  state-is : (code : State → ℕ) → both code ≡ 0 → decoded d ≡ s
  state-is code z = opened-is (then-zero (in_place_code d) (room_code d) (then-zero (rewrite_code d) (code (decoded d)) z).0).0

  accepts : (code : State → ℕ) → both code ≡ 0 → code s ≡ 0
  accepts code z = ap code (sym (state-is code z)) ∙ (then-zero (rewrite_code d) (code (decoded d)) z).1

  -- an accepted one rewrites the snapshot
  state-after : (code : State → ℕ) (after : State → State) → (code s ≡ 0 → Typed (after s) × (check (after s) ≡ 0)) → state_in s slice (cond (eqb (both code) 0) (encoded (after (decoded d))) d) ≡ cond (eqb (both code) 0) (after s) s
  unfolding d
  state-after code after f =
      by_code (λ b. state_in s slice (cond b (encoded (after (decoded d))) d) ≡ cond b (after s) s) (both code)
      (λ z. rw (state-is code z) (let p = f (accepts code z) in rewritten-holds (after s) p.0 p.1 s slice))
      (untouched-holds s full ok slice)

  in-place-reading : (y : ℤ) → Works s (squares s (InPlaceReading slice y)) (result s (InPlaceReading slice y))
  unfolding d result squares in_place_step_code in_place_step_bytes
  in-place-reading y =
      rw (state-after (λ t. step_code t y) (λ t. after_reading t y) (λ z. (reading-typed s y full, reading-kept s y full.cells z)))
      (reads no_changes y (both (λ t. step_code t y)) (λ z. (unlisted, accepts (λ t. step_code t y) z)))

  in-place-missing : Works s (squares s (InPlaceMissing slice)) (result s (InPlaceMissing slice))
  unfolding d result squares in_place_missing_code in_place_missing_bytes
  in-place-missing =
      rw (state-after missing_code after_missing (λ z. (record { cells = full.cells; low = full.low }, missing-kept s z)))
      (misses no_changes (both missing_code) (λ z. (unlisted, accepts missing_code z)))

  in-place-switch : Works s (squares s (InPlaceSwitch slice)) (result s (InPlaceSwitch slice))
  unfolding d result squares in_place_switch_bytes
  in-place-switch =
      rw (state-after check (λ t. switched t) (λ z. (record { cells = full.cells; low = full.low }, checks-kept s ∙ z))) (switches (both check))

  in-place-forecast : (h : ℕ) (old : ℤ) → Works s (squares s (InPlaceForecast slice h old)) (result s (InPlaceForecast slice h old))
  unfolding d result squares in_place_forecast_code in_place_forecast
  in-place-forecast h old =
      forecasts-one h (in_place_code d then forecast_code (decoded d) h) (in_place_forecast d h old)
      (λ z. rw z (ap (λ (t : State). forecast_of t h) (opened-is (then-zero (in_place_code d) (forecast_code (decoded d) h) z).0)))

-- ---- every call
pub works : (s : State) → Typed s → check s ≡ 0 → (k : Call) → Works s (squares s k) (result s k)
works s full ok (Reading y) = direct-reading s y
works s full ok Missing = direct-missing s
works s full ok Switch = direct-switch s
works s full ok (Batch ys cells) = direct-batch s ys cells
works s full ok (Forecast limit h) = direct-forecast limit s h
works s full ok (Forecasts limit h cells) = direct-forecasts limit s h cells
works s full ok (ReadingOn k y) = reading-on s k y
works s full ok (MissingOn k) = missing-on s k
works s full ok (BatchOn k ys cells) = batch-on s k ys cells
works s full ok (ForecastOn k h) = forecast-on s k h
works s full ok (ForecastsOn k h cells) = forecasts-on s k h cells
works s full ok (InPlaceReading slice y) = in-place-reading s full ok slice y
works s full ok (InPlaceMissing slice) = in-place-missing s full ok slice
works s full ok (InPlaceSwitch slice) = in-place-switch s full ok slice
works s full ok (InPlaceForecast slice h old) = in-place-forecast s full ok slice h old
