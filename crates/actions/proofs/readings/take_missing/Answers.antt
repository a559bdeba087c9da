-- `actions::readings::take_missing` meets its contract.
use Rattle.actions.proofs.readings.take_missing.Goals as goal

pub returns-in-Ok : goal.returns-in-Ok
returns-in-Ok c = rw (← c.missing-found.ensures, c.in-Ok.is) c.accept.ensures

pub returns-in-Err : goal.returns-in-Err
returns-in-Err c = rw (← c.missing-found.ensures, c.in-Err.is) c.reject.ensures
