use mir.Facts.{to_z-of_z}
use Rattle.state.proofs.Answers.{check-ends, check-passes}
use Rattle.forecasting.proofs.check_from.Goals as goal

pub returns-in_err-unless-2 : goal.returns-in_err-unless-2
returns-in_err-unless-2 c =
    let p = check-passes _ c.in_ok-unless.ensures in
    let e = rw (c.in_range.ensures, c.in_range-2.ensures, c.in_range-3.ensures, to_z-of_z c.ranges.level, to_z-of_z c.ranges.trend, to_z-of_z c.ranges.season) at c.in_err-unless-2.ensures in
    rw p (check-ends _ _ tt e c.from_residual-in_err-unless-2.ensures.1)
