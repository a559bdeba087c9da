-- `c_api::forecaster_switch_to_even` meets its contract.
use mathlib.Core.Path.{◌∙◌}
use Rattle.state.proofs.Answers.{outcome-code}
use Rattle.in_place.proofs.Codes.{code-switch-in-place}
use Rattle.c_api.proofs.forecaster_switch_to_even.Goals as goal

pub returns-clause-code : goal.returns-clause-code
returns-clause-code c =
    (rw c.switch_to_even.ensures.answer at c.code_of.ensures) ∙ outcome-code _ (code-switch-in-place c.args.snapshot.now)
