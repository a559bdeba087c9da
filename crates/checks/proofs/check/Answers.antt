use Rattle.state.specs.States.{check}
use Rattle.state.proofs.Answers.{check-ends, check-passes}
use Rattle.checks.proofs.check.Goals as goal

pub returns-in_err-unless : goal.returns-in_err-unless
unfolding check
returns-in_err-unless c =
    check-ends _ _ tt (rw c.model_ok.ensures at c.in_err-unless.ensures) c.from_residual.ensures.1

pub returns-in_err-unless-2 : goal.returns-in_err-unless-2
unfolding check
returns-in_err-unless-2 c =
    let model = check-passes _ (rw c.model_ok.ensures at c.in_ok-unless.ensures) in
    rw model (check-ends _ _ tt (rw c.period_ok.ensures at c.in_err-unless-2.ensures) c.from_residual-in_err-unless-2.ensures.1)

pub returns-in_err-check_parameters : goal.returns-in_err-check_parameters
unfolding check
returns-in_err-check_parameters c =
    let model = check-passes _ (rw c.model_ok.ensures at c.in_ok-unless.ensures) in
    let period = check-passes _ (rw c.period_ok.ensures at c.in_ok-unless-2.ensures) in
    rw (model, period) (check-ends _ _ tt c.in_err-check_parameters.ensures c.from_residual-in_err-check_parameters.ensures.1)

pub returns-in_err-unless-3 : goal.returns-in_err-unless-3
unfolding check
returns-in_err-unless-3 c =
    let model = check-passes _ (rw c.model_ok.ensures at c.in_ok-unless.ensures) in
    let period = check-passes _ (rw c.period_ok.ensures at c.in_ok-unless-2.ensures) in
    let parameters = check-passes _ c.in_ok-check_parameters.ensures in
    rw (model, period, parameters) (check-ends _ _ tt (rw c.values_ok.ensures at c.in_err-unless-3.ensures) c.from_residual-in_err-unless-3.ensures.1)

pub returns-in_err-unless-4 : goal.returns-in_err-unless-4
unfolding check
returns-in_err-unless-4 c =
    let model = check-passes _ (rw c.model_ok.ensures at c.in_ok-unless.ensures) in
    let period = check-passes _ (rw c.period_ok.ensures at c.in_ok-unless-2.ensures) in
    let parameters = check-passes _ c.in_ok-check_parameters.ensures in
    let values = check-passes _ (rw c.values_ok.ensures at c.in_ok-unless-3.ensures) in
    rw (model, period, parameters, values) (check-ends _ _ tt (rw c.position_ok.ensures at c.in_err-unless-4.ensures) c.from_residual-in_err-unless-4.ensures.1)

pub returns : goal.returns
unfolding check
returns c =
    let model = check-passes _ (rw c.model_ok.ensures at c.in_ok-unless.ensures) in
    let period = check-passes _ (rw c.period_ok.ensures at c.in_ok-unless-2.ensures) in
    let parameters = check-passes _ c.in_ok-check_parameters.ensures in
    let values = check-passes _ (rw c.values_ok.ensures at c.in_ok-unless-3.ensures) in
    let position = check-passes _ (rw c.position_ok.ensures at c.in_ok-unless-4.ensures) in
    rw (model, period, parameters, values, position) (rw c.score_ok.ensures at c.unless-5.ensures)
