use Rattle.models.proofs.has_relative_errors.Goals as goal

pub returns : goal.returns
returns c = rw c.errors_of.ensures
