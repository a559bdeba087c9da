-- `saving::rewriting::rewrite_score` meets its contract: where there is room the command is written.
use mathlib.Core.Path.{sym, ◌∙◌}
use native.Mathlib.Omega.{arith}
use Rattle.layout.specs.CommandTable.{score_length}
use Rattle.layout.specs.Layout.{score_at}
use Rattle.saving.specs.Encoding.{score_bytes}
use Rattle.saving.proofs.Lengths.{length-score, written-room, written_none}
use Rattle.saving.proofs.rewriting.rewrite_score.Goals as goal

pub returns-then-d : goal.returns-then-d
returns-then-d c =
    let a = c.args in
    c.write_score.ensures ∙ sym (written-room a.d.now score_at (score_bytes a.s) score_length (length-score a.s) (omega arith))

pub returns-else-d : goal.returns-else-d
returns-else-d c =
    let a = c.args in
    sym (written_none a.d.now score_at (score_bytes a.s) score_length (length-score a.s) (omega arith))
