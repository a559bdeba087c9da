-- Document 01, "Forecast and variance": the coefficients C for all j up to a horizon, in lent cells.
use Rattle.std.specs.Prelude.{ℕ, zero, suc, List, [], ◌∷◌, ◌++◌, length, drop}
use Rattle.state.specs.Rejections.{accepting, outcome, Outcome}
use Rattle.state.specs.declared.State.{State}
use Rattle.forecasts.specs.Forecasts.{forecasts_code}
use Rattle.weights.specs.Weights.{coefficient}

-- C for j from 1 to h
unfoldable pub coefficient_list : State → ℕ → List ℕ
coefficient_list s zero = []
coefficient_list s (suc h) = coefficient_list s h ++ (coefficient s (suc h) ∷ [])

-- the call, rejected as that for all forecasts: by the state's checks, 11, then 12
unfoldable pub coefficients : State → ℕ → ℕ → Outcome
coefficients s h room = outcome (forecasts_code s h room)

-- they fill the first h cells only, and none where it is rejected
unfoldable pub coefficient_cells : State → ℕ → List ℕ → List ℕ
coefficient_cells s h cells =
    accepting (forecasts_code s h (length cells)) (coefficient_list s h ++ drop h cells) (λ _. cells)
