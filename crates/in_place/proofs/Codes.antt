-- The rejection of each call in place is a number of the papers, or 0.
use Prim.Native.Nat.{ℕ}
use mathlib.Core.List.{List}
use native.Mathlib.Omega.{arith}
use lib.Dec.{leb}
use lib.IntN.{ℤ}
use lib.ListN.{length}
use Rattle.calendars.specs.Calendars.{no_changes}
use Rattle.state.specs.Rejections.{IsCode, short_buffer}
use Rattle.state.specs.States.{check}
use Rattle.state.specs.declared.State.{State}
use Rattle.state.proofs.Answers.{code-then, code-unless}
use Rattle.ets.specs.Steps.{step_code, missing_code}
use Rattle.forecasts.proofs.Codes.{code-check, code-step, code-missing, code-forecast}
use Rattle.layout.specs.Layout.{size_of, period_in}
use Rattle.snapshot.specs.Snapshots.{decoded}
use Rattle.slices.specs.Slices.{in_place_code}
use Rattle.slices.proofs.Codes.{code-slice}
use Rattle.in_place.specs.InPlace.{room_code, rewrite_code, rejection, in_place_step_code, in_place_missing_code, in_place_switch_code, in_place_forecast_code}

code-in-place : (code : State → ℕ) (d : List ℕ) → IsCode (code (decoded d)) → IsCode (rejection code d)
code-in-place code d a =
    code-then (rewrite_code d) (code (decoded d)) (code-then (in_place_code d) (room_code d) (code-slice d) (code-unless (leb (size_of (period_in d)) (length d)) short_buffer (omega arith))) a

pub code-step-in-place : (d : List ℕ) (y : ℤ) → IsCode (in_place_step_code d y)
unfolding in_place_step_code
code-step-in-place d y = code-in-place (λ (s : State). step_code s y) d (code-step (decoded d) no_changes y)

pub code-missing-in-place : (d : List ℕ) → IsCode (in_place_missing_code d)
unfolding in_place_missing_code
code-missing-in-place d = code-in-place missing_code d (code-missing (decoded d))

pub code-switch-in-place : (d : List ℕ) → IsCode (in_place_switch_code d)
unfolding in_place_switch_code
code-switch-in-place d = code-in-place check d (code-check (decoded d))

pub code-forecast-in-place : (d : List ℕ) (h : ℕ) → IsCode (in_place_forecast_code d h)
unfolding in_place_forecast_code
code-forecast-in-place d h = code-then (in_place_code d) _ (code-slice d) (code-forecast (decoded d) 512 h)
