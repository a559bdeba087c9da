use Rattle.models.proofs.ties_to_even.Goals as goal

pub returns : goal.returns
returns c = rw c.rounding_of.ensures
