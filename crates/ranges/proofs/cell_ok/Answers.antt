use mir.Facts.{to_z-of_z}
use Rattle.ranges.proofs.cell_ok.Goals as goal

pub returns : goal.returns
returns c = rw (c.pick.ensures, c.is_zero.ensures, c.in_range.ensures, to_z-of_z c.ranges.v)
