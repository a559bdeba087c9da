use mathlib.Core.Bool.{false}
use Rattle.state.proofs.Answers.{check-passes, check-rejects}
use Rattle.weights.specs.Weights.{weight}
use Rattle.weights.proofs.Rejecting.{errors-ready}
use Rattle.weighting.proofs.variances.weight.Goals as goal

pub returns-in_err-check_errors : goal.returns-in_err-check_errors
unfolding weight
returns-in_err-check_errors c = check-rejects _ _ c.in_err-check_errors.ensures c.from_residual.ensures.1

pub invariant_of-r : goal.invariant_of-r
invariant_of-r c =
    let q = errors-ready false c.args.s c.args.h (check-passes _ c.in_ok-check_errors.ensures) in
    record { passes = q.valid; above = q.least; below = q.most }

pub returns : goal.returns
unfolding weight
returns c = rw (check-passes _ c.in_ok-check_errors.ensures, ← c.weight_of.ensures)
