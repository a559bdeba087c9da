use Rattle.models.proofs.errors_are.Goals as goal

pub returns : goal.returns
returns c = rw (c.pick.ensures, c.has_relative_errors-found.ensures)
