use mathlib.Core.Path.{sym, ap, ◌∙◌}
use Rattle.state.proofs.Passing.{valid}
use Rattle.ets.specs.Updates.{stored}
use Rattle.ets.specs.declared.Update.{Update}
use Rattle.ets.proofs.StepLaws.{missing-accepted, missing-facts}
use Rattle.ets.proofs.UpdateLaws.{missed-accepted, missed-rejected, stored-missing}
use Rattle.updates.proofs.steps.missing.Goals as goal

pub store-requires : goal.store-requires
store-requires c =
    let s = c.args.s in
    let f = missing-facts s (missed-accepted s c.in-Ok.u c.in-Ok.ensures).0 in
    ((valid s f.valid).bounded.index, f.room)

pub returns-in-Ok : goal.returns-in-Ok
returns-in-Ok c =
    let s = c.args.s in
    let t = missed-accepted s c.in-Ok.u c.in-Ok.ensures in
    let x = c.store.ensures ∙ ap (λ (u : Update). stored s u s.score) (sym t.1) ∙ stored-missing s (valid s (missing-facts s t.0).valid) in
    rw (missing-accepted s t.0, x)

pub returns-in-Err : goal.returns-in-Err
returns-in-Err c = sym (missed-rejected c.args.s c.in-Err.rejection c.in-Err.ensures)
