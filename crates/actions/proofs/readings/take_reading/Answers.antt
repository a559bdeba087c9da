-- `actions::readings::take_reading` meets its contract.
use borrow.Author.Rules.{rules}
use Rattle.ets.specs.Steps.{step}
use mathlib.Core.Path.{◌≡◌}
use mir.ValLaws.{to_z-of_z}
use mir.Val.{SFits}
use mir.Syntax.{w32, w64}
use Rattle.actions.proofs.readings.take_reading.Goals as goal

pub returns-in-Ok : goal.returns-in-Ok
returns-in-Ok c =
    let k : c.step-found.result ≡ step c.args.s c.args.y = rw (to_z-of_z w32 c.args.y c.ranges.y) at c.step-found.ensures in
    let f : SFits w64 c.in-Ok.e = search rules in
    rw (← k, c.in-Ok.is) (rw (to_z-of_z w64 c.in-Ok.e f) at c.accept.ensures)

pub returns-in-Err : goal.returns-in-Err
returns-in-Err c =
    let k : c.step-found.result ≡ step c.args.s c.args.y = rw (to_z-of_z w32 c.args.y c.ranges.y) at c.step-found.ensures in
    rw (← k, c.in-Err.is) c.reject.ensures
