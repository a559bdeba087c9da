use mir.Syntax.{w64}
use mir.Val.{SFits}
use borrow.Author.Rules.{rules}
use mir.ValLaws.{to_z-of_z}
use Rattle.update_checks.proofs.stays.Goals as goal

pub returns : goal.returns
returns c =
    let v = c.args.u in
    let hl : SFits w64 v.level = search rules in
    let ht : SFits w64 v.trend = search rules in
    let hs : SFits w64 v.season = search rules in
    rw (c.in_range-3.ensures, c.in_range-2.ensures, c.in_range.ensures, to_z-of_z w64 v.level hl, to_z-of_z w64 v.trend ht, to_z-of_z w64 v.season hs)
