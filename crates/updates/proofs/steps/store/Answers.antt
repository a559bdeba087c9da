use mir.Syntax.{w64}
use mir.Val.{SFits}
use mir.ValLaws.{to_z-of_z}
use borrow.Author.Rules.{rules}
use Rattle.updates.proofs.steps.store.Goals as goal

pub returns : goal.returns
returns c =
    let u = c.args.u in
    let hl : SFits w64 u.level = search rules in
    let ht : SFits w64 u.trend = search rules in
    let hs : SFits w64 u.season = search rules in
    rw (c.next_index.ensures, to_z-of_z w64 u.level hl, to_z-of_z w64 u.trend ht, to_z-of_z w64 u.season hs)
