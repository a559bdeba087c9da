use Rattle.std.proofs.Common.{arith, add-one, ◌∙◌, w64}
use Rattle.integers.proofs.Difference.{back}
use Rattle.fields.specs.Fields.{cells_at}
use Rattle.fields.proofs.Cells.{cells-all}
use Rattle.fields.proofs.Snapshot.read_cells.Goals as goal
use Rattle.fields.proofs.Snapshot.read_cells.Goals.{then-whole, else-whole}

pub loop-k-init : goal.loop-k-init
unfolding cells_at
loop-k-init c = c.requires

pub loop-k-preserved : goal.loop-k-preserved
unfolding cells_at
loop-k-preserved c =
    elim c.if-whole.branch [
      | then-whole w ↦ rw (add-one, ← c.loop-k.invariant, ← c.args.self.told, w.cells-is ∙ back w64 _ w.whole_season.type_inv ∙ w.whole_season.ensures)
      | else-whole w ↦ rw (add-one, ← c.loop-k.invariant, ← c.args.self.told, w.cells-is ∙ back w64 _ w.season_in.type_inv ∙ w.season_in.ensures)
    ]

pub returns : goal.returns
returns c = c.loop-k.invariant ∙ cells-all c.args.self.bytes.now c.args.m c.loop-k.k (omega (arith, c.min-n.ensures))
