use Rattle.state.proofs.Answers.{check-ends, check-passes}
use Rattle.relative_errors.specs.Relative.{input_code}
use Rattle.relative_variance.proofs.check_input.Goals as goal

pub returns-in_err-check_errors : goal.returns-in_err-check_errors
unfolding input_code
returns-in_err-check_errors c = check-ends _ _ tt c.in_err-check_errors.ensures c.from_residual.ensures.1

pub returns-in_err-unless : goal.returns-in_err-unless
unfolding input_code
returns-in_err-unless c =
    let p = check-passes _ c.in_ok-check_errors.ensures in
    rw p (check-ends _ _ tt c.in_err-unless.ensures c.from_residual-in_err-unless.ensures.1)

pub returns : goal.returns
unfolding input_code
returns c =
    let p = check-passes _ c.in_ok-check_errors.ensures in
    let k = check-passes _ c.in_ok-unless.ensures in
    rw (p, k) c.unless-2.ensures
