-- `actions::looks::give_forecast` meets its contract.
use borrow.Author.Rules.{rules}
use mir.ValLaws.{to_z-of_z}
use mir.Syntax.{w64}
use Rattle.actions.proofs.looks.give_forecast.Goals as goal

pub returns-in-Ok : goal.returns-in-Ok
returns-in-Ok c =
    rw (← c.forecast.ensures, c.in-Ok.is) (rw (to_z-of_z w64 c.in-Ok.value (search rules)) at c.accept.ensures)

pub returns-in-Err : goal.returns-in-Err
returns-in-Err c = rw (← c.forecast.ensures, c.in-Err.is) c.reject.ensures
