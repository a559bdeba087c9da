-- A call in place is the direct call on the state that its slice holds.
use Prim.Native.Nat.{ℕ, ◌-◌, ◌≤◌}
use mathlib.Core.Path.{◌≡◌, refl, ap, ◌∙◌}
use mathlib.Core.Bool.{Bool, true, false, cond}
use mathlib.Core.List.{List, [], append-nil}
use native.Mathlib.Omega.{arith}
use borrow.Author.Tests.{le-leb, eqb-true}
use lib.Dec.{eqb}
use lib.IntN.{ℤ}
use lib.ListN.{length}
use Rattle.state.specs.Rejections.{accepting}
use Rattle.state.specs.States.{Typed, check}
use Rattle.state.specs.Switching.{switched, switch_to_even}
use Rattle.state.specs.declared.State.{State}
use Rattle.state.proofs.Switches.{checks-kept}
use Rattle.ets.specs.Steps.{step_code, missing_code, residual_of, after_reading, after_missing, step, missing}
use Rattle.ets.proofs.Kept.{reading-typed, reading-kept, missing-kept}
use Rattle.layout.specs.Bytes.{AreBytes}
use Rattle.layout.specs.Layout.{size_of, scored_in, period_in}
use Rattle.snapshot.specs.Snapshots.{decoded}
use Rattle.slices.specs.Slices.{spare, in_place_code}
use Rattle.slices.proofs.SliceLaws.{one-snapshot}
use Rattle.snapshot.proofs.Decoded.{accepted-passes}
use Rattle.saving.specs.Encoding.{model_bytes, encoded}
use Rattle.in_place.specs.InPlace.{room_code, rejection, bytes_after, number_after, in_place_step_code, in_place_step_bytes, in_place_residual, in_place_missing_code, in_place_missing_bytes, in_place_switch_code, in_place_switch_bytes, in_place_forecast_code, in_place_forecast}
use Rattle.in_place.specs.Promises.{SliceHolds, StepInPlace, MissingInPlace, SwitchInPlace, ForecastInPlace, InPlaceIsDirect}
use Rattle.saving.proofs.Lengths.{length-encoded}
use Rattle.round_trips.proofs.RoundTrip.{read_back, upgraded-back, whole, decoded-typed}
use Rattle.in_place.proofs.InPlaceSteps.{rewrite-length}

-- ---- the snapshot of a state that the checks let pass, lent by itself
pub in-place-encoded : (s : State) → Typed s → check s ≡ 0 → (in_place_code (encoded s) ≡ 0) × (decoded (encoded s) ≡ s)
unfolding in_place_code
in-place-encoded s full ok =
    let r = rw (append-nil (encoded s)) at (read_back s [] full ok) in
    let l : length (encoded s) - length (encoded s) ≤ spare (scored_in (encoded s)) = omega arith in
    (rw (r.0, r.1, le-leb (length (encoded s) - length (encoded s)) (spare (scored_in (encoded s))) l), r.2)

-- it has the room that it needs
encoded-period : (s : State) → period_in (encoded s) ≡ s.period
unfolding encoded model_bytes
encoded-period s = refl

pub room-encoded : (s : State) → room_code (encoded s) ≡ 0
room-encoded s =
    rw (le-leb (size_of (period_in (encoded s))) (length (encoded s)) (omega (arith, length-encoded s, ap size_of (encoded-period s))))

-- ---- so each combinator is that of the direct call
module _ (s : State) (full : Typed s) (ok : check s ≡ 0) (code : State → ℕ) where
  pub code_is : rejection code (encoded s) ≡ code s
  code_is = rw ((in-place-encoded s full ok).0, room-encoded s, (in-place-encoded s full ok).1)

  pub number_is : (value : State → ℤ) (old : ℤ) → number_after code value (encoded s) old ≡ accepting (code s) (value s) (λ (n : ℕ). old)
  number_is value old = rw (code_is, (in-place-encoded s full ok).1)

  pub bytes-are : (next : State → State) → bytes_after code next (encoded s) ≡ encoded (cond (eqb (code s) 0) (next s) s)
  bytes-are next = rw (code_is, (in-place-encoded s full ok).1) (go (eqb (code s) 0))
    where
      go : (t : Bool) → cond t (encoded (next s)) (encoded s) ≡ encoded (cond t (next s) s)
      go true = refl
      go false = refl

  -- and the slice reads as the state that stands, where an accepted call keeps its state valid
  pub state-is : (next : State → State) → (code s ≡ 0 → (check (next s) ≡ 0) × Typed (next s)) → decoded (bytes_after code next (encoded s)) ≡ cond (eqb (code s) 0) (next s) s
  state-is next keeps = rw (bytes-are next) (go (eqb (code s) 0) refl)
    where
      go : (t : Bool) → eqb (code s) 0 ≡ t → decoded (encoded (cond t (next s) s)) ≡ cond t (next s) s
      go true e = let k = keeps (eqb-true (code s) 0 e) in (in-place-encoded (next s) k.1 k.0).1
      go false e = (in-place-encoded s full ok).1

step-direct : (s : State) → Typed s → check s ≡ 0 → (y : ℤ) → StepInPlace s y
unfolding in_place_step_code in_place_step_bytes in_place_residual step
step-direct s full ok y =
    record {
      code = code_is s full ok (λ t. step_code t y);
      bytes = bytes-are s full ok (λ t. step_code t y) (λ t. after_reading t y);
      holds = state-is s full ok (λ t. step_code t y) (λ t. after_reading t y) (λ z. (reading-kept s y full.cells z, reading-typed s y full));
      number = number_is s full ok (λ t. step_code t y) (λ t. residual_of t y);
    }

missing-direct : (s : State) → Typed s → check s ≡ 0 → MissingInPlace s
unfolding in_place_missing_code in_place_missing_bytes missing
missing-direct s full ok =
    record {
      code = code_is s full ok missing_code;
      bytes = bytes-are s full ok missing_code (λ t. after_missing t);
      holds = state-is s full ok missing_code (λ t. after_missing t) (λ z. (missing-kept s z, record { cells = full.cells; low = full.low }));
    }

switch-direct : (s : State) → Typed s → check s ≡ 0 → SwitchInPlace s
unfolding in_place_switch_code in_place_switch_bytes switch_to_even
switch-direct s full ok =
    record {
      code = code_is s full ok check;
      bytes = bytes-are s full ok check (λ t. switched t);
      holds = state-is s full ok check (λ t. switched t) (λ z. (checks-kept s ∙ z, record { cells = full.cells; low = full.low }));
    }

forecast-direct : (s : State) → Typed s → check s ≡ 0 → (h : ℕ) → ForecastInPlace s h
unfolding in_place_forecast_code in_place_forecast
forecast-direct s full ok h =
    let r = in-place-encoded s full ok in
    record { code = rw (r.0, r.1); number = λ old. rw (r.0, r.1) }

-- ---- what an accepted slice holds
slice-holds : (d : List ℕ) → AreBytes d → in_place_code d ≡ 0 → SliceHolds d
slice-holds d b z =
    let o = one-snapshot d z in
    record {
      passes = accepted-passes d o.0;
      typed = decoded-typed d b;
      new = whole d b z;
      old = upgraded-back d b o.0;
      room = rewrite-length d z;
    }

pub in-place-is-direct : InPlaceIsDirect
in-place-is-direct =
    record {
      slice = slice-holds;
      step = step-direct;
      missing = missing-direct;
      switch = switch-direct;
      forecast = forecast-direct;
    }
