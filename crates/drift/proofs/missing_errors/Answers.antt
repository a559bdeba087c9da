use Rattle.drift.proofs.StepErrors.{missing-errors}
use Rattle.drift.proofs.missing_errors.Goals as goal

pub returns : goal.returns
returns c = missing-errors
