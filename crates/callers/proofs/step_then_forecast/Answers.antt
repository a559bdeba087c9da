use mathlib.Core.Path.{◌≡◌}
use Prim.Native.Nat.{ℕ}
use lib.IntN.{ℤ}
use Rattle.state.specs.Rejections.{answer_code, answer_value, Answer}
use Rattle.state.specs.declared.State.{State}
use Rattle.ets.specs.declared.Stepped.{Stepped}
use Rattle.ets.specs.Steps.{step}
use Rattle.forecasts.specs.Forecasts.{forecast}
use Rattle.traces.specs.Calls.{Reading}
use Rattle.callers.specs.Chains.{ForecastWithin}
use Rattle.callers.proofs.Chains.{directly}
use mir.Syntax.{w32}
use mir.Val.{to_z, of_z}
use borrow.Author.Rules.{rules}
use Rattle.callers.proofs.step_then_forecast.Goals as goal

chained : (s : State) (y : ℤ) (h : ℕ) (t : Stepped) (r : Answer) → t ≡ step s y → r ≡ forecast t.state h → (r ≡ forecast (step s y).state h) × ForecastWithin s (Reading y) h (answer_code r) (answer_value r)
chained s y h t r e f = rw (f, e) ((λ i. forecast (step s y).state h), directly s y h)

pub returns : goal.returns
returns c =
    let a = c.args in
    let y-is : to_z w32 (of_z w32 a.y) ≡ a.y = search rules in
    let r = chained a.s a.y a.h c.step-stepped.result c.forecast.result (rw y-is at c.step-stepped.ensures) c.forecast.ensures in
    record { answer = r.0; limit = r.1 }
