use Rattle.models.proofs.period_ok.Goals as goal

pub returns : goal.returns
returns c = rw (c.pick.ensures, c.has_season.ensures)
