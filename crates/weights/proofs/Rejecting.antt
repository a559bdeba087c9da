-- What a call for one kind of errors that is not rejected has.
use Prim.Native.Nat.{ℕ}
use mathlib.Core.Path.{◌≡◌}
use mathlib.Core.Bool.{Bool}
use lib.Dec.{leb}
use borrow.Author.Tests.{leb-true}
use Rattle.integers.proofs.Tests.{both}
use Rattle.models.specs.Models.{errors_are}
use Rattle.state.specs.States.{check}
use Rattle.state.specs.declared.State.{State}
use Rattle.state.proofs.Tests.{then-zero, unless-then, unless-zero}
use Rattle.forecasts.specs.Forecasts.{horizon_ok}
use Rattle.forecasts.proofs.ForecastLaws.{Ready}
use Rattle.weights.specs.Weights.{errors_code}

pub errors-ready : (relative : Bool) (s : State) (h : ℕ) → errors_code relative s h ≡ 0 → Ready 512 s h
unfolding errors_code
errors-ready relative s h z =
    let a = then-zero (check s) _ z in
    let e = unless-then (errors_are relative s.model) 2 _ a.1 in
    let p = both (leb 1 h) (leb h 512) (unless-zero (horizon_ok 512 h) 10 e.1) in
    record { valid = a.0; least = leb-true 1 h p.0; most = leb-true h 512 p.1 }
