-- `snapshot::reading::values_at` meets its contract.
use mathlib.Core.Path.{◌∙◌}
use mir.Syntax.{w64}
use Rattle.integers.proofs.Difference.{back}
use Rattle.snapshot.proofs.reading.values_at.Goals as goal

pub returns : goal.returns
returns c =
    let t = c in
    let l = t in
    rw (← (back w64 _ l.value_at.type_inv ∙ l.value_at.ensures), ← (back w64 _ t.value_at-2.type_inv ∙ t.value_at-2.ensures), ← t.in_range.ensures, ← c.trend_ok.ensures)
