-- `actions::copies::store_state` meets its contract.
use Rattle.actions.proofs.copies.store_state.Goals as goal

pub returns-in-Ok : goal.returns-in-Ok
returns-in-Ok c =
    let r = c.store.ensures in
    record { answer = rw (← r.answer, c.in-Ok.is) c.accept.ensures; kept = r.bytes }

pub returns-in-Err : goal.returns-in-Err
returns-in-Err c =
    let r = c.store.ensures in
    record { answer = rw (← r.answer, c.in-Err.is) c.reject.ensures; kept = r.bytes }
