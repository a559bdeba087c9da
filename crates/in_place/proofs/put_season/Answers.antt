-- `in_place::put_season` meets its contract.
use borrow.Author.Tests.{eq-eqb, ne_eqb}
use mathlib.Core.Path.{◌∙◌}
use mathlib.Core.Bool.{true}
use native.Mathlib.Omega.{arith}
use mir.Syntax.{w64}
use mir.ValLaws.{to_z-of_z}
use Rattle.layout.specs.CommandTable.{season_length}
use Rattle.layout.specs.Layout.{season_at}
use Rattle.saving.specs.Encoding.{season_bytes}
use Rattle.saving.proofs.Lengths.{length-season, written-room}
use Rattle.in_place.proofs.put_season.Goals as goal

pub returns-then-m-ne0 : goal.returns-then-m-ne0
returns-then-m-ne0 c =
    let w = c in
    let s = w in
    let a = s.args in
    let r = written-room a.d.now (season_at true a.p) (season_bytes a.p a.v) season_length (length-season a.p a.v) (omega arith) in
    rw (ne_eqb _ _ w.if-m-ne0.true) (rw (to_z-of_z w64 a.v s.ranges.v) at w.rewrite_season.ensures ∙ r)

pub returns-else-m-ne0 : goal.returns-else-m-ne0
returns-else-m-ne0 c = rw (eq-eqb _ _ c.if-m-ne0.false)
