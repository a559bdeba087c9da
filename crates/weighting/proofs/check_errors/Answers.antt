use Rattle.state.proofs.Answers.{check-ends, check-passes}
use Rattle.weights.specs.Weights.{errors_code}
use Rattle.weighting.proofs.check_errors.Goals as goal

pub returns-in_err-check : goal.returns-in_err-check
unfolding errors_code
returns-in_err-check c = check-ends _ _ tt c.in_err-check.ensures c.from_residual.ensures.1

pub returns-in_err-unless : goal.returns-in_err-unless
unfolding errors_code
returns-in_err-unless c =
    let p = check-passes _ c.in_ok-check.ensures in
    rw p (check-ends _ _ tt (rw c.errors_are.ensures at c.in_err-unless.ensures) c.from_residual-in_err-unless.ensures.1)

pub returns : goal.returns
unfolding errors_code
returns c =
    let p = check-passes _ c.in_ok-check.ensures in
    let k = check-passes _ (rw c.errors_are.ensures at c.in_ok-unless.ensures) in
    rw (p, k) (rw c.horizon_ok.ensures at c.unless-2.ensures)
