-- `saving::rewriting::rewrite_level` meets its contract: where there is room the command is written.
use mathlib.Core.Path.{sym, ap₂, ◌∙◌}
use native.Mathlib.Omega.{arith}
use lib.IntN.{ℤ}
use lib.Seq.{sets}
use mir.Facts.{to_z-of_z}
use Rattle.layout.specs.CommandTable.{level_length}
use Rattle.layout.specs.Layout.{level_at}
use Rattle.saving.specs.Encoding.{level_bytes}
use Rattle.saving.proofs.Lengths.{length-level, written-room, written_none}
use Rattle.saving.proofs.rewriting.rewrite_level.Goals as goal

pub returns-then-d-ge-SCORE_AT : goal.returns-then-d-ge-SCORE_AT
returns-then-d-ge-SCORE_AT c =
    let a = c.args in
    c.write_level.ensures
    ∙ ap₂ (λ (l b : ℤ). sets a.d.now level_at (level_bytes l b)) (to_z-of_z c.ranges.level) (to_z-of_z c.ranges.trend)
    ∙ sym (written-room a.d.now level_at (level_bytes a.level a.trend) level_length (length-level a.level a.trend) (omega arith))

pub returns-else-d-ge-SCORE_AT : goal.returns-else-d-ge-SCORE_AT
returns-else-d-ge-SCORE_AT c =
    let a = c.args in
    sym (written_none a.d.now level_at (level_bytes a.level a.trend) level_length (length-level a.level a.trend) (omega arith))
