use Rattle.state.proofs.Answers.{check-ends, check-passes}
use Rattle.ets.specs.Updates.{numbers_code}
use Rattle.update_checks.proofs.check_numbers.Goals as goal

pub returns-in_err-unless : goal.returns-in_err-unless
unfolding numbers_code
returns-in_err-unless c =
    check-ends _ _ tt (rw c.gains_ok.ensures at c.in_err-unless.ensures) c.from_residual.ensures.1

pub returns-in_err-unless-2 : goal.returns-in_err-unless-2
unfolding numbers_code
returns-in_err-unless-2 c =
    let gains = check-passes _ (rw c.gains_ok.ensures at c.in_ok-unless.ensures) in
    rw gains (check-ends _ _ tt (rw c.ranges_ok.ensures at c.in_err-unless-2.ensures) c.from_residual-in_err-unless-2.ensures.1)

pub returns : goal.returns
unfolding numbers_code
returns c =
    let gains = check-passes _ (rw c.gains_ok.ensures at c.in_ok-unless.ensures) in
    let ranges = check-passes _ (rw c.ranges_ok.ensures at c.in_ok-unless-2.ensures) in
    rw (gains, ranges) (rw c.count_ok.ensures at c.unless-3.ensures)
