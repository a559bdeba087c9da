-- `actions::looks::give_variance` meets its contract.
use Rattle.actions.proofs.looks.give_variance.Goals as goal

pub returns-in-Ok : goal.returns-in-Ok
returns-in-Ok c = rw (← c.variance.ensures, c.in-Ok.is) c.accept.ensures

pub returns-in-Err : goal.returns-in-Err
returns-in-Err c = rw (← c.variance.ensures, c.in-Err.is) c.reject.ensures
