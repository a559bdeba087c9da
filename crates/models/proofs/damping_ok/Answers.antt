use Rattle.models.proofs.damping_ok.Goals as goal

pub returns : goal.returns
returns c = rw (c.pick-2.ensures, c.pick.ensures)
