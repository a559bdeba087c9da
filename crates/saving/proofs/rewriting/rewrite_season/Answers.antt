-- `saving::rewriting::rewrite_season` meets its contract: where there is room the command is written.
use mathlib.Core.Path.{sym, ap, ◌∙◌}
use mathlib.Core.Bool.{true}
use native.Mathlib.Omega.{arith}
use lib.IntN.{ℤ}
use lib.Seq.{sets}
use mir.Facts.{to_z-of_z}
use Rattle.layout.specs.CommandTable.{season_length}
use Rattle.layout.specs.Layout.{season_at}
use Rattle.saving.specs.Encoding.{season_bytes}
use Rattle.saving.proofs.Lengths.{length-season, written-room, written_none}
use Rattle.saving.proofs.rewriting.rewrite_season.Goals as goal

pub returns-then-season_at-d : goal.returns-then-season_at-d
returns-then-season_at-d c =
    let a = c.args in
    c.write_season.ensures
    ∙ ap (λ (v : ℤ). sets a.d.now (season_at true a.k) (season_bytes a.k v)) (to_z-of_z c.ranges.v)
    ∙ sym (written-room a.d.now (season_at true a.k) (season_bytes a.k a.v) season_length (length-season a.k a.v) (omega arith))

pub returns-else-season_at-d : goal.returns-else-season_at-d
returns-else-season_at-d c =
    let a = c.args in
    sym (written_none a.d.now (season_at true a.k) (season_bytes a.k a.v) season_length (length-season a.k a.v) (omega arith))
