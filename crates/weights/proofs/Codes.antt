-- The rejection of a call for one kind of errors is a number of the papers, or 0.
use Prim.Native.Nat.{ℕ}
use mathlib.Core.Bool.{Bool}
use native.Mathlib.Omega.{arith}
use Rattle.state.specs.Rejections.{IsCode, out_of_place, bad_horizon}
use Rattle.state.specs.declared.State.{State}
use Rattle.state.proofs.Answers.{code-then, code-unless}
use Rattle.forecasts.proofs.Codes.{code-check}
use Rattle.weights.specs.Weights.{errors_code}

pub code-errors : (relative : Bool) (s : State) (h : ℕ) → IsCode (errors_code relative s h)
unfolding errors_code
code-errors relative s h =
    code-then _ _ (code-check s) (code-then _ _ (code-unless _ out_of_place (omega arith)) (code-unless _ bad_horizon (omega arith)))
