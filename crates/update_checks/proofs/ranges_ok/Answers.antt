use mir.Syntax.{w64}
use Rattle.integers.proofs.Difference.{back}
use Rattle.update_checks.proofs.ranges_ok.Goals as goal

pub returns : goal.returns
returns c =
    let n = c.args.n in
    let t = c.struct_told-3-1.given in
    rw (c.in_range-3.ensures, c.in_range-2.ensures, c.in_range.ensures, back w64 n.level t.1.1.1.1.0.1, back w64 n.trend t.1.1.1.1.1.0.1, back w64 n.season t.1.1.1.1.1.1.0.1)
