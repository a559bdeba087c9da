use Rattle.state.specs.States.{parameters_code}
use Rattle.state.proofs.Answers.{check-ends, check-passes}
use Rattle.ranges.proofs.check_parameters.Goals as goal

pub returns-in_err-unless : goal.returns-in_err-unless
unfolding parameters_code
returns-in_err-unless c =
    check-ends _ _ tt (rw (c.parameters_ok.ensures, c.usual_gains-usual.ensures) at c.in_err-unless.ensures) c.from_residual.ensures.1

pub returns : goal.returns
unfolding parameters_code
returns c =
    let p = check-passes _ (rw (c.parameters_ok.ensures, c.usual_gains-usual.ensures) at c.in_ok-unless.ensures) in
    rw (p) (rw c.usual_gains-usual.ensures at c.unless-2.ensures)
