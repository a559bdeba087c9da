-- A reading and then a forecast from an opening state of a trendless model, as a caller sees it: what it is answered is within demand 3's limits of the exact recursion.
use Rattle.std.specs.Prelude.{ℕ, cond, [], ◌∷◌, eqb, ℤ}
use Rattle.state.specs.declared.State.{State}
use Rattle.traces.specs.Calls.{Call, horizon, result}
use Rattle.drift.specs.Exact.{parameters_of, exact_of, exact_after, expected}
use Rattle.drift.specs.Limits.{WithinLimit, EachWithin, Trendless, Opening}

-- n is the forecast's rejection, or 0 where v is the forecast
abbrev pub ForecastWithin : State → Call → ℕ → ℕ → ℤ → Type 0
ForecastWithin s reading h n v =
    Opening s
    → Trendless (parameters_of s)
    → EachWithin (WithinLimit (parameters_of s)) (cond (eqb n 0) (v ∷ []) [])
    (expected (parameters_of s) (exact_after (parameters_of s) (exact_of s) (result s reading).event) (horizon h (eqb n 0)))
