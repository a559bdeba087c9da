-- `actions::copies::open_snapshot` meets its contract.
use Rattle.actions.proofs.ActionLaws.{rest-begins, opened-rejected, opened-accepted}
use Rattle.actions.specs.Actions.{accepted, rejected}
use mathlib.Core.Path.{sym, ◌∙◌}
use Rattle.actions.proofs.copies.open_snapshot.Goals as goal

pub overflow_sub-size : goal.overflow_sub-size
overflow_sub-size c = (rest-begins _ c.rest-outcome.ensures.part).0

pub returns-in-Ok : goal.returns-in-Ok
returns-in-Ok c =
    let e = c.accept-action.ensures ∙ sym (opened-accepted _ accepted (rejected c.args.s) _ (sym c.in-Ok.is ∙ c.rest-outcome.ensures.rejection) c.read.ensures) in
    rw (e, (rest-begins _ c.rest-outcome.ensures.part).1)

pub returns-in-Err : goal.returns-in-Err
returns-in-Err c =
    let e = c.reject-action.ensures ∙ sym (opened-rejected _ accepted (rejected c.args.s) (sym c.in-Err.is ∙ c.rest-outcome.ensures.rejection)) in
    rw (e, (rest-begins _ c.rest-outcome.ensures.part).1)
