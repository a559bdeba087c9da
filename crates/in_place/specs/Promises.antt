-- The promise about the calls in place: each is the direct call on the state that its slice holds.
use Rattle.std.specs.Prelude.{ℕ, ◌≡◌, true, false, List, ℤ, length}
use Rattle.state.specs.Rejections.{accepting}
use Rattle.state.specs.States.{Typed, check}
use Rattle.state.specs.Switching.{switch_to_even}
use Rattle.state.specs.declared.State.{State}
use Rattle.ets.specs.Steps.{step_code, residual_of, missing_code, step, missing}
use Rattle.forecasts.specs.Forecasts.{forecast_code, forecast_of}
use Rattle.layout.specs.Bytes.{AreBytes}
use Rattle.layout.specs.Layout.{scored_in}
use Rattle.snapshot.specs.Snapshots.{decoded}
use Rattle.slices.specs.Slices.{in_place_code}
use Rattle.saving.specs.Encoding.{encoded}
use Rattle.round_trips.specs.Promises.{upgraded}
use Rattle.in_place.specs.InPlace.{room_code, in_place_step_code, in_place_step_bytes, in_place_residual, in_place_missing_code, in_place_missing_bytes, in_place_switch_code, in_place_switch_bytes, in_place_forecast_code, in_place_forecast}

-- a call in place on the snapshot of a state is the direct call on the state: the number returned, the snapshot that the slice then holds, how that reads, and the lent number
pub record StepInPlace (s : State) (y : ℤ) : Type 0 where
  pub code : in_place_step_code (encoded s) y ≡ step_code s y
  pub bytes : in_place_step_bytes (encoded s) y ≡ encoded (step s y).state
  pub holds : decoded (in_place_step_bytes (encoded s) y) ≡ (step s y).state
  pub number : (old : ℤ) → in_place_residual (encoded s) y old ≡ accepting (step_code s y) (residual_of s y) (λ (n : ℕ). old)

pub record MissingInPlace (s : State) : Type 0 where
  pub code : in_place_missing_code (encoded s) ≡ missing_code s
  pub bytes : in_place_missing_bytes (encoded s) ≡ encoded (missing s).state
  pub holds : decoded (in_place_missing_bytes (encoded s)) ≡ (missing s).state

pub record SwitchInPlace (s : State) : Type 0 where
  pub code : in_place_switch_code (encoded s) ≡ check s
  pub bytes : in_place_switch_bytes (encoded s) ≡ encoded (switch_to_even s).state
  pub holds : decoded (in_place_switch_bytes (encoded s)) ≡ (switch_to_even s).state

pub record ForecastInPlace (s : State) (h : ℕ) : Type 0 where
  pub code : in_place_forecast_code (encoded s) h ≡ forecast_code s h
  pub number : (old : ℤ) → in_place_forecast (encoded s) h old ≡ accepting (forecast_code s h) (forecast_of s h) (λ (n : ℕ). old)

-- the state that an accepted slice holds passes; its snapshot is the slice, or of an old one the upgraded one, for which the slice has room where the call that
-- rewrites it is not rejected by 12
pub record SliceHolds (d : List ℕ) : Type 0 where
  pub passes : check (decoded d) ≡ 0
  pub typed : Typed (decoded d)
  pub new : scored_in d ≡ true → encoded (decoded d) ≡ d
  pub old : scored_in d ≡ false → encoded (decoded d) ≡ upgraded d
  pub room : room_code d ≡ 0 → length (encoded (decoded d)) ≡ length d

pub record InPlaceIsDirect : Type 0 where
  pub slice : (d : List ℕ) → AreBytes d → in_place_code d ≡ 0 → SliceHolds d
  pub step : (s : State) → Typed s → check s ≡ 0 → (y : ℤ) → StepInPlace s y
  pub missing : (s : State) → Typed s → check s ≡ 0 → MissingInPlace s
  pub switch : (s : State) → Typed s → check s ≡ 0 → SwitchInPlace s
  pub forecast : (s : State) → Typed s → check s ≡ 0 → (h : ℕ) → ForecastInPlace s h
