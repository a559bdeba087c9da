use Rattle.lines.proofs.DigitLaws.{count-log}
use Rattle.lines.proofs.digits.digit_count.Goals as goal

pub returns : goal.returns
returns c =
    let l = c.checked_ilog10.ensures in
    rw c.unwrap_or.ensures (count-log c.checked_ilog10.result c.args.n l.none l.power_le l.next_power_gt l.bound)
