-- Document 02, W-204: over a list of calls the score grows by the real readings that were accepted, and by the squares of their R(e).
use Rattle.std.specs.Prelude.{ℕ, ◌+◌, cond, List, [], ◌∷◌, ◌++◌, ◌≡◌, ℤ, length}
use Rattle.calendars.specs.Calendars.{Calendar, no_changes}
use Rattle.integers.specs.Totals.{total}
use Rattle.state.specs.Rejections.{accepting}
use Rattle.state.specs.Fixed.{is_sentinel}
use Rattle.state.specs.Scores.{sum_of}
use Rattle.state.specs.declared.State.{State}
use Rattle.ets.specs.Steps.{step_code, square_by}
use Rattle.ets.specs.Batches.{take_code_by, after_take_by, batch_code}
use Rattle.ets.specs.Calendars.{step_code_on, batch_code_on}
use Rattle.in_place.specs.InPlace.{in_place_step_code}
use Rattle.traces.specs.Calls.{Call, Reading, Missing, Switch, Batch, Forecast, Forecasts, ReadingOn, MissingOn, BatchOn, ForecastOn, ForecastsOn, InPlaceReading, InPlaceMissing, InPlaceSwitch, InPlaceForecast, slice_of, result, after}
use Rattle.traces.specs.Laws.{Passing}

-- the square of an accepted real reading, of which n is the rejection; none of a rejected one
abbrev pub square_if : ℕ → Calendar → State → ℤ → List ℕ
square_if n k s y = accepting n (square_by k s y ∷ []) (λ (r : ℕ). [])

-- of the readings of a batch until one is rejected: the sentinel is no real reading
unfoldable pub batch_squares : Calendar → State → List ℤ → List ℕ
batch_squares k s [] = []
batch_squares k s (y ∷ ys) =
    accepting (take_code_by k s y) (cond (is_sentinel y) [] (square_by k s y ∷ []) ++ batch_squares k (after_take_by k s y) ys) (λ (r : ℕ). [])

-- of a batch of which n is the rejection before its first reading
abbrev pub squares_if : ℕ → Calendar → State → List ℤ → List ℕ
squares_if n k s ys = accepting n (batch_squares k s ys) (λ (r : ℕ). [])

-- those of one call
unfoldable pub squares : State → Call → List ℕ
squares s (Reading y) = square_if (step_code s y) no_changes s y
squares s Missing = []
squares s Switch = []
squares s (Batch ys cells) = squares_if (batch_code s (length ys) (length cells)) no_changes s ys
squares s (Forecast limit h) = []
squares s (Forecasts limit h cells) = []
squares s (ReadingOn k y) = square_if (step_code_on k s y) k s y
squares s (MissingOn k) = []
squares s (BatchOn k ys cells) = squares_if (batch_code_on k s (length ys) (length cells)) k s ys
squares s (ForecastOn k h) = []
squares s (ForecastsOn k h cells) = []
squares s (InPlaceReading slice y) = square_if (in_place_step_code (slice_of s slice) y) no_changes s y
squares s (InPlaceMissing slice) = []
squares s (InPlaceSwitch slice) = []
squares s (InPlaceForecast slice h old) = []

-- and of a list of calls
unfoldable pub all_squares : State → List Call → List ℕ
all_squares s [] = []
all_squares s (k ∷ ks) = squares s k ++ all_squares (result s k).state ks

-- t has the score of s and the squares of so many readings
pub record Scored (s t : State) (squares : List ℕ) : Type 0 where
  pub readings : t.score.readings ≡ s.score.readings + length squares
  pub sum : sum_of t.score ≡ sum_of s.score + total squares

abbrev pub ScoreLaws : Type 0
ScoreLaws = (s : State) → Passing s → (ks : List Call) → Scored s (after s ks) (all_squares s ks)
