use Rattle.weighting.proofs.sums.group_count.Goals as goal

pub returns-then-has_season : goal.returns-then-has_season
returns-then-has_season c = rw (← c.has_season.ensures, c.if-has_season.true)

pub returns-else-has_season : goal.returns-else-has_season
returns-else-has_season c = rw (← c.has_season.ensures, c.if-has_season.false)
