-- Document 01, "Commands": the station's calls on a lent slice that holds one snapshot (the paper's group), worked in place.
use Rattle.std.specs.Prelude.{ℕ, List, leb, ℤ, length}
use Rattle.state.specs.Rejections.{unless, ◌then◌, accepting, short_buffer}
use Rattle.state.specs.States.{check}
use Rattle.state.specs.Switching.{switched}
use Rattle.state.specs.declared.State.{State}
use Rattle.ets.specs.Steps.{step_code, missing_code, residual_of, after_reading, after_missing}
use Rattle.forecasts.specs.Forecasts.{forecast_code, forecast_of}
use Rattle.layout.specs.Layout.{period_in, size_of}
use Rattle.snapshot.specs.Snapshots.{decoded}
use Rattle.slices.specs.Slices.{in_place_code}
use Rattle.saving.specs.Encoding.{encoded}

-- a call that rewrites the slice needs the room of a saved snapshot, which an old one may not leave (document 02, W-204)
abbrev pub room_code : List ℕ → ℕ
room_code d = unless (leb (size_of (period_in d)) (length d)) short_buffer

abbrev pub rewrite_code : List ℕ → ℕ
rewrite_code d = in_place_code d then room_code d

-- such a call is the call on the state that the snapshot holds: its rejection, the bytes that the slice then holds (as found where it is rejected), and so a lent number
abbrev pub rejection : (State → ℕ) → List ℕ → ℕ
rejection code d = rewrite_code d then code (decoded d)

abbrev pub bytes_after : (State → ℕ) → (State → State) → List ℕ → List ℕ
bytes_after code next d = accepting (rejection code d) (encoded (next (decoded d))) (λ (n : ℕ). d)

abbrev pub number_after : (State → ℕ) → (State → ℤ) → List ℕ → ℤ → ℤ
number_after code value d old = accepting (rejection code d) (value (decoded d)) (λ (n : ℕ). old)

-- a reading: an accepted step rewrites the snapshot and stores the residual
unfoldable pub in_place_step_code : List ℕ → ℤ → ℕ
in_place_step_code d y = rejection (λ (s : State). step_code s y) d

unfoldable pub in_place_step_bytes : List ℕ → ℤ → List ℕ
in_place_step_bytes d y = bytes_after (λ (s : State). step_code s y) (λ (s : State). after_reading s y) d

unfoldable pub in_place_residual : List ℕ → ℤ → ℤ → ℤ
in_place_residual d y old = number_after (λ (s : State). step_code s y) (λ (s : State). residual_of s y) d old

-- a missing reading
unfoldable pub in_place_missing_code : List ℕ → ℕ
in_place_missing_code d = rejection missing_code d

unfoldable pub in_place_missing_bytes : List ℕ → List ℕ
in_place_missing_bytes d = bytes_after missing_code (λ (s : State). after_missing s) d

-- a switch to ties to even (document 02, W-211)
unfoldable pub in_place_switch_code : List ℕ → ℕ
in_place_switch_code d = rejection check d

unfoldable pub in_place_switch_bytes : List ℕ → List ℕ
in_place_switch_bytes d = bytes_after check (λ (s : State). switched s) d

-- a forecast rewrites nothing, so that it needs no room
unfoldable pub in_place_forecast_code : List ℕ → ℕ → ℕ
in_place_forecast_code d h = in_place_code d then forecast_code (decoded d) h

unfoldable pub in_place_forecast : List ℕ → ℕ → ℤ → ℤ
in_place_forecast d h old = accepting (in_place_forecast_code d h) (forecast_of (decoded d) h) (λ (n : ℕ). old)
