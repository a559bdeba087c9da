-- What holds of every call of a list, from a state that its checks let pass; and of the slices of calls in place, one after the other.
use Rattle.std.specs.Prelude.{ℕ, ◌<◌, true, cond, List, [], ◌≡◌, ℤ, length, take}
use Rattle.state.specs.States.{Typed, check}
use Rattle.state.specs.declared.State.{State}
use Rattle.forecasts.specs.Forecasts.{max_horizon}
use Rattle.layout.specs.Bytes.{AreBytes}
use Rattle.layout.specs.Layout.{scored_in}
use Rattle.snapshot.specs.Snapshots.{decoded}
use Rattle.slices.specs.Slices.{in_place_code}
use Rattle.saving.specs.Encoding.{encoded}
use Rattle.in_place.specs.InPlace.{rewrite_code, in_place_step_code, in_place_step_bytes, in_place_missing_code, in_place_missing_bytes, in_place_switch_code, in_place_switch_bytes, in_place_forecast_code, in_place_forecast}
use Rattle.traces.specs.Calls.{followed, Call, Reading, Missing, Switch, Forecast, InPlaceReading, InPlaceMissing, InPlaceSwitch, InPlaceForecast, Event, observed, unobserved, untold, series, horizon, horizons, horizon_on, horizons_on, result, slice_of}

-- the cells that a call filled, or the forecast that it answered
abbrev pub filled : Event → ℕ
filled (observed k y accepted) = 0
filled (unobserved k accepted) = 0
filled untold = 0
filled (series k ys taken) = taken
filled (horizon h accepted) = cond accepted 1 0
filled (horizons h accepted) = cond accepted h 0
filled (horizon_on k h accepted) = cond accepted 1 0
filled (horizons_on k h accepted) = cond accepted h 0

-- a state that passes: what a call gets, and what it leaves
pub record Passing (s : State) : Type 0 where
  pub typed : Typed s
  pub passes : check s ≡ 0

-- the next call gets such a state again; each cell filled and each forecast answered is among the numbers
pub record CallLaw (s : State) (k : Call) : Type 0 where
  pub stays : Passing (result s k).state
  pub counted : length (result s k).numbers ≡ filled (result s k).event

abbrev pub CallLaws : Type 0
CallLaws = (s : State) → Passing s → (k : Call) → CallLaw s k

-- in place on its snapshot alone, a call is the direct one
pub record InPlaceLaw (s : State) : Type 0 where
  pub reading : (y : ℤ) → result s (InPlaceReading (followed []) y) ≡ result s (Reading y)
  pub missing : result s (InPlaceMissing (followed [])) ≡ result s Missing
  pub switch : result s (InPlaceSwitch (followed [])) ≡ result s Switch
  pub forecast : (h : ℕ) (old : ℤ) → result s (InPlaceForecast (followed []) h old) ≡ result s (Forecast max_horizon h)

abbrev pub InPlaceLaws : Type 0
InPlaceLaws = (s : State) → Passing s → InPlaceLaw s

-- the slice d holds the snapshot of s, and has the room to save it: the list hands the saved form to a call in place, and an old one (without command 15, document 02,
-- W-204) stands for it until a call rewrites it
pub record Holds (d : List ℕ) (s : State) : Type 0 where
  pub rewritable : rewrite_code d ≡ 0
  pub state : decoded d ≡ s
  pub passing : Passing s

-- a call in place on it answers what it answers to the list, and the slice that it leaves holds the state that then stands, rejected or not
pub record ReadingLaw (d : List ℕ) (s : State) (y : ℤ) : Type 0 where
  pub code : in_place_step_code d y ≡ in_place_step_code (slice_of s (followed [])) y
  pub holds : Holds (in_place_step_bytes d y) (result s (InPlaceReading (followed []) y)).state

pub record MissingLaw (d : List ℕ) (s : State) : Type 0 where
  pub code : in_place_missing_code d ≡ in_place_missing_code (slice_of s (followed []))
  pub holds : Holds (in_place_missing_bytes d) (result s (InPlaceMissing (followed []))).state

pub record SwitchLaw (d : List ℕ) (s : State) : Type 0 where
  pub code : in_place_switch_code d ≡ in_place_switch_code (slice_of s (followed []))
  pub holds : Holds (in_place_switch_bytes d) (result s (InPlaceSwitch (followed []))).state

pub record ForecastLaw (d : List ℕ) (s : State) (h : ℕ) : Type 0 where
  pub code : in_place_forecast_code d h ≡ in_place_forecast_code (slice_of s (followed [])) h
  pub number : (old : ℤ) → in_place_forecast d h old ≡ in_place_forecast (slice_of s (followed [])) h old

pub record SliceLaws : Type 0 where
  -- an accepted slice with room does, and with command 15 it is the slice that the list hands on
  pub opening : (d : List ℕ) → AreBytes d → rewrite_code d ≡ 0 → Holds d (decoded d)
  pub saved : (d : List ℕ) (s : State) → AreBytes d → Holds d s → scored_in d ≡ true → d ≡ slice_of s (followed [])
  pub reading : (d : List ℕ) (s : State) → Holds d s → (y : ℤ) → ReadingLaw d s y
  pub missing : (d : List ℕ) (s : State) → Holds d s → MissingLaw d s
  pub switch : (d : List ℕ) (s : State) → Holds d s → SwitchLaw d s
  pub forecast : (d : List ℕ) (s : State) → Holds d s → (h : ℕ) → ForecastLaw d s h
  -- a slice that ends before the snapshot does is rejected
  pub short : (s : State) (size : ℕ) → size < length (encoded s) → in_place_code (take size (encoded s)) ≡ 0 → ⊥
