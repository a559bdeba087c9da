use mir.Facts.{to_z-of_z}
use Rattle.ranges.proofs.trend_ok.Goals as goal

pub returns : goal.returns
returns c = rw (c.pick.ensures, c.is_zero.ensures, c.in_range.ensures, c.has_trend.ensures, to_z-of_z c.ranges.b)
