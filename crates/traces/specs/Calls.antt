-- Document 01, "One step": a list of calls, run by the definitions that the calls' contracts cite.
-- The paper's words, and the names here:
--   group          snapshot, the encoding of a state
--   lent group     in place: a call on a slice of bytes that holds a snapshot
--   refused        rejected
--   mark           sentinel, a missing reading in a slice
--   place          seasonal index
--   e              residual
use Rattle.std.specs.Prelude.{ℕ, Bool, cond, List, [], ◌∷◌, ◌++◌, eqb, ℤ, length, take, drop}
use Rattle.calendars.specs.Calendars.{Calendar, no_changes}
use Rattle.state.specs.Rejections.{outcome_code, answer_code, answer_value}
use Rattle.state.specs.Switching.{switch_to_even}
use Rattle.state.specs.declared.State.{State}
use Rattle.ets.specs.Steps.{step, missing}
use Rattle.ets.specs.Batches.{batch, batch_levels}
use Rattle.ets.specs.Calendars.{step_on, missing_on, batch_on, batch_levels_on}
use Rattle.forecasts.specs.Forecasts.{forecast_to, forecasts_to, forecast_cells_to}
use Rattle.forecasts.specs.Calendars.{forecast_on, forecasts_on, forecast_cells_on}
use Rattle.snapshot.specs.Snapshots.{decoded}
use Rattle.saving.specs.Encoding.{encoded}
use Rattle.in_place.specs.InPlace.{in_place_step_code, in_place_step_bytes, in_place_missing_code, in_place_missing_bytes, in_place_switch_bytes, in_place_forecast_code, in_place_forecast}

-- What a call in place is lent of the memory with the state's snapshot: all of it and the bytes that follow (any of which makes the call a rejected one), or its first
-- `size` bytes alone (too few make it one).
pub data Slice : Type 0 where
  followed : (trailing : List ℕ) → Slice
  cut : (size : ℕ) → Slice

-- A state is handed in directly, or in place: as the snapshot in a slice. `cells` is what the lent cells hold at entry, `old` the lent number of a forecast, `limit`
-- the longest horizon that the call takes: 512, or 48 on the bedside display (document 02, W-206). The calls `..On` take two lent lists of step counts, each call its own
-- (W-208).
pub data Call : Type 0 where
  Reading : (y : ℤ) → Call
  Missing : Call
  Switch : Call
  Batch : (ys cells : List ℤ) → Call
  Forecast : (limit h : ℕ) → Call
  Forecasts : (limit h : ℕ) (cells : List ℤ) → Call
  ReadingOn : (k : Calendar) (y : ℤ) → Call
  MissingOn : (k : Calendar) → Call
  BatchOn : (k : Calendar) (ys cells : List ℤ) → Call
  ForecastOn : (k : Calendar) (h : ℕ) → Call
  ForecastsOn : (k : Calendar) (h : ℕ) (cells : List ℤ) → Call
  InPlaceReading : (slice : Slice) (y : ℤ) → Call
  InPlaceMissing : (slice : Slice) → Call
  InPlaceSwitch : (slice : Slice) → Call
  InPlaceForecast : (slice : Slice) (h : ℕ) (old : ℤ) → Call

-- what one who sees no state and no number is told of a call: its readings or horizon and, of its answer, only whether it was accepted or how many readings a batch took;
-- of a switch of the rounding rule (document 02, W-211) nothing. Of a step it is told the lists of the call (W-208), of which the calls of document 01 have two empty ones
pub data Event : Type 0 where
  observed : (k : Calendar) (y : ℤ) (accepted : Bool) → Event
  unobserved : (k : Calendar) (accepted : Bool) → Event
  untold : Event
  series : (k : Calendar) (ys : List ℤ) (taken : ℕ) → Event
  horizon : (h : ℕ) (accepted : Bool) → Event
  horizons : (h : ℕ) (accepted : Bool) → Event
  horizon_on : (k : Calendar) (h : ℕ) (accepted : Bool) → Event
  horizons_on : (k : Calendar) (h : ℕ) (accepted : Bool) → Event

-- what a call does: the state that then stands, what is told of it, and the levels or forecasts that it answered or put in cells
pub record Result : Type 0 where
  pub state : State
  pub event : Event
  pub numbers : List ℤ

-- of a call with the rejection n, or 0 where it is accepted: it answers its numbers only then
abbrev pub answered : State → (Bool → Event) → ℕ → List ℤ → Result
answered s event n numbers = record { state = s; event = event (eqb n 0); numbers = cond (eqb n 0) numbers [] }

-- the bytes of a slice at entry; and the state that stands where they became d, with what was not lent
abbrev pub slice_of : State → Slice → List ℕ
slice_of s (followed trailing) = encoded s ++ trailing
slice_of s (cut size) = take size (encoded s)

abbrev pub state_in : State → Slice → List ℕ → State
state_in s (followed trailing) d = decoded d
state_in s (cut size) d = decoded (d ++ drop size (encoded s))

-- a forecast leaves the state that it got
unfoldable pub result : State → Call → Result
result s (Reading y) = answered (step s y).state (observed no_changes y) (answer_code (step s y).residual) []
result s Missing = answered (missing s).state (unobserved no_changes) (outcome_code (missing s).outcome) []
result s Switch = record { state = (switch_to_even s).state; event = untold; numbers = [] }
result s (Batch ys cells) =
    let b = batch s ys (length cells) in
    record { state = b.state; event = series no_changes ys b.taken; numbers = take b.taken (batch_levels s ys cells) }
result s (Forecast limit h) = let a = forecast_to limit s h in answered s (horizon h) (answer_code a) (answer_value a ∷ [])
result s (Forecasts limit h cells) =
    answered s (horizons h) (outcome_code (forecasts_to limit s h (length cells))) (take h (forecast_cells_to limit s h cells))
result s (ReadingOn k y) = answered (step_on k s y).state (observed k y) (answer_code (step_on k s y).residual) []
result s (MissingOn k) = answered (missing_on k s).state (unobserved k) (outcome_code (missing_on k s).outcome) []
result s (BatchOn k ys cells) =
    let b = batch_on k s ys (length cells) in
    record { state = b.state; event = series k ys b.taken; numbers = take b.taken (batch_levels_on k s ys cells) }
result s (ForecastOn k h) = let a = forecast_on k s h in answered s (horizon_on k h) (answer_code a) (answer_value a ∷ [])
result s (ForecastsOn k h cells) =
    answered s (horizons_on k h) (outcome_code (forecasts_on k s h (length cells))) (take h (forecast_cells_on k s h cells))
result s (InPlaceReading slice y) =
    let d = slice_of s slice in answered (state_in s slice (in_place_step_bytes d y)) (observed no_changes y) (in_place_step_code d y) []
result s (InPlaceMissing slice) =
    let d = slice_of s slice in answered (state_in s slice (in_place_missing_bytes d)) (unobserved no_changes) (in_place_missing_code d) []
result s (InPlaceSwitch slice) =
    record { state = state_in s slice (in_place_switch_bytes (slice_of s slice)); event = untold; numbers = [] }
result s (InPlaceForecast slice h old) =
    let d = slice_of s slice in answered s (horizon h) (in_place_forecast_code d h) (in_place_forecast d h old ∷ [])

-- the state that stands after a list of calls: each gets the one that stands after the one before
unfoldable pub after : State → List Call → State
after s [] = s
after s (k ∷ ks) = after (result s k).state ks
