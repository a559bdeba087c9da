-- The benchmark's calls on a lent slice that holds one snapshot (the paper's group): the slice's own rejections, then those of the call on its state.
use Rattle.std.specs.Prelude.{ℕ, List, ℤ, Float}
use Rattle.calendars.specs.Calendars.{Calendar}
use Rattle.state.specs.Rejections.{◌then◌, accepting, outcome_code}
use Rattle.ets.specs.Batches.{batch, batch_levels}
use Rattle.ets.specs.Calendars.{batch_on, batch_levels_on}
use Rattle.forecasts.specs.Forecasts.{forecasts_code, forecast_cells}
use Rattle.forecasts.specs.Calendars.{forecasts_code_on, forecast_cells_on}
use Rattle.snapshot.specs.Snapshots.{decoded}
use Rattle.slices.specs.Slices.{in_place_code}
use Rattle.weights.specs.Weights.{weight, weight_code, weight_value}
use Rattle.weights.specs.Groups.{weight_groups_code, weight_group_cells}
use Rattle.relative_errors.specs.Relative.{answer_code, answer_value, relative_variance, relative_cells}

-- a batch: the number returned, the readings taken, and the cells; the snapshot is read and not rewritten
unfoldable pub batch_code : List ℕ → List ℤ → ℕ → ℕ
batch_code d ys room = in_place_code d then outcome_code (batch (decoded d) ys room).outcome

unfoldable pub batch_taken : List ℕ → List ℤ → ℕ → ℕ
batch_taken d ys room = accepting (in_place_code d) (batch (decoded d) ys room).taken (λ (n : ℕ). 0)

unfoldable pub batch_cells : List ℕ → List ℤ → List ℤ → List ℤ
batch_cells d ys cells = accepting (in_place_code d) (batch_levels (decoded d) ys cells) (λ (n : ℕ). cells)

-- the same by two lists of clock changes
unfoldable pub batch_on_code : List ℕ → Calendar → List ℤ → ℕ → ℕ
batch_on_code d k ys room = in_place_code d then outcome_code (batch_on k (decoded d) ys room).outcome

unfoldable pub batch_on_taken : List ℕ → Calendar → List ℤ → ℕ → ℕ
batch_on_taken d k ys room = accepting (in_place_code d) (batch_on k (decoded d) ys room).taken (λ (n : ℕ). 0)

unfoldable pub batch_on_cells : List ℕ → Calendar → List ℤ → List ℤ → List ℤ
batch_on_cells d k ys cells = accepting (in_place_code d) (batch_levels_on k (decoded d) ys cells) (λ (n : ℕ). cells)

-- all horizons: the number returned and the cells
unfoldable pub all_code : List ℕ → ℕ → ℕ → ℕ
all_code d h room = in_place_code d then forecasts_code (decoded d) h room

unfoldable pub all_cells : List ℕ → ℕ → List ℤ → List ℤ
all_cells d h cells = accepting (in_place_code d) (forecast_cells (decoded d) h cells) (λ (n : ℕ). cells)

-- the same by two lists of clock changes
unfoldable pub all_on_code : List ℕ → Calendar → ℕ → ℕ → ℕ
all_on_code d k h room = in_place_code d then forecasts_code_on k (decoded d) h room

unfoldable pub all_on_cells : List ℕ → Calendar → ℕ → List ℤ → List ℤ
all_on_cells d k h cells = accepting (in_place_code d) (forecast_cells_on k (decoded d) h cells) (λ (n : ℕ). cells)

-- a weight: the number returned, and the lent number, as found where it is rejected
unfoldable pub in_place_weight_code : List ℕ → ℕ → ℕ
in_place_weight_code d h = in_place_code d then weight_code (weight (decoded d) h)

unfoldable pub in_place_weight : List ℕ → ℕ → ℕ → ℕ
in_place_weight d h old = accepting (in_place_code d) (weight_value (weight (decoded d) h) old) (λ (n : ℕ). old)

-- the groups of a weight: the number returned and the cells
unfoldable pub in_place_groups_code : List ℕ → ℕ → ℕ → ℕ
in_place_groups_code d h room = in_place_code d then weight_groups_code (decoded d) h room

unfoldable pub in_place_group_cells : List ℕ → ℕ → List ℕ → List ℕ
in_place_group_cells d h cells = accepting (in_place_code d) (weight_group_cells (decoded d) h cells) (λ (n : ℕ). cells)

-- a variance of multiplicative errors, with so many doubles lent: the number returned, the lent number, as found where it is rejected, and the cells
unfoldable pub in_place_relative_code : List ℕ → ℕ → ℕ → ℕ → ℕ
in_place_relative_code d h bits room = in_place_code d then answer_code (relative_variance (decoded d) h bits room)

unfoldable pub in_place_relative_value : List ℕ → ℕ → ℕ → ℕ → Float → Float
in_place_relative_value d h bits room old =
    accepting (in_place_code d) (answer_value (relative_variance (decoded d) h bits room) old) (λ (n : ℕ). old)

unfoldable pub in_place_relative_cells : List ℕ → ℕ → ℕ → List Float → List Float
in_place_relative_cells d h bits cells = accepting (in_place_code d) (relative_cells (decoded d) h bits cells) (λ (n : ℕ). cells)
