use Rattle.drift.proofs.StepErrors.{step-errors}
use Rattle.drift.proofs.step_errors.Goals as goal

pub returns : goal.returns
returns c = step-errors
