-- `actions::copies::save_state` meets its contract.
use Rattle.saving.proofs.Lengths.{length-encoded}
use native.Mathlib.Omega.{arith}
use mathlib.Core.Path.{sym, ◌∙◌}
use Rattle.actions.proofs.copies.save_state.Goals as goal

pub overflow_cast-count : goal.overflow_cast-count
overflow_cast-count c = omega (arith, c.size_of-count.ensures)

pub returns-in-Ok : goal.returns-in-Ok
returns-in-Ok c =
    let r = c.save.ensures in
    let n = c.size_of-count.ensures ∙ sym (length-encoded c.args.s) in
    record { answer = rw (← r.answer, c.in-Ok.is, ← n) c.accept.ensures; bytes = r.bytes }

pub returns-in-Err : goal.returns-in-Err
returns-in-Err c =
    let r = c.save.ensures in
    record { answer = rw (← r.answer, c.in-Err.is) c.reject.ensures; bytes = r.bytes }
