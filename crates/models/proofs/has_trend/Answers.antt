use Rattle.models.proofs.has_trend.Goals as goal

pub returns : goal.returns
returns c = rw c.trend_of.ensures
