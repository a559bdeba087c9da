use Rattle.models.proofs.has_season.Goals as goal

pub returns : goal.returns
returns c = rw c.season_of.ensures
