-- `c_api::forecaster_missing` meets its contract.
use mathlib.Core.Path.{◌∙◌}
use Rattle.state.proofs.Answers.{outcome-code}
use Rattle.in_place.proofs.Codes.{code-missing-in-place}
use Rattle.c_api.proofs.forecaster_missing.Goals as goal

pub returns-clause-code : goal.returns-clause-code
returns-clause-code c = (rw c.missing.ensures.answer at c.code_of.ensures) ∙ outcome-code _ (code-missing-in-place c.args.snapshot.now)
