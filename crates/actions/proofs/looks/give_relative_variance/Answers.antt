-- `actions::looks::give_relative_variance` meets its contract: an accepted answer is no NaN, so that it has its bits.
use mathlib.Core.Path.{sym, ◌∙◌}
use Rattle.relative_errors.proofs.Finite.{accepted-is-finite}
use Rattle.actions.proofs.looks.give_relative_variance.Goals as goal

pub float_to_bits-bits : goal.float_to_bits-bits
float_to_bits-bits c = (accepted-is-finite _ _ _ _ _ (sym c.relative_variance.ensures.answer ∙ c.in-Ok.is)).no_nan

pub returns-in-Ok : goal.returns-in-Ok
returns-in-Ok c = rw (← c.relative_variance.ensures.answer, c.in-Ok.is) c.accept.ensures

pub returns-in-Err : goal.returns-in-Err
returns-in-Err c = rw (← c.relative_variance.ensures.answer, c.in-Err.is) c.reject.ensures
