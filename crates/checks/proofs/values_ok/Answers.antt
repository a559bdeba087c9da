-- `checks::values_ok` meets its contract.
use mir.Syntax.{w64}
use mir.Val.{SFits}
use mir.ValLaws.{to_z-of_z}
use borrow.Author.Rules.{rules}
use Rattle.checks.proofs.values_ok.Goals as goal

pub returns : goal.returns
returns c =
    let s = c.args.s in
    let hl : SFits w64 s.level = search rules in
    let ht : SFits w64 s.trend = search rules in
    rw (c.seasonal_ok.ensures, c.trend_ok.ensures, c.in_range.ensures, to_z-of_z w64 s.level hl, to_z-of_z w64 s.trend ht)
