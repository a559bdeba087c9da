-- After k turns the values of k places are in their cells.
use Rattle.std.proofs.Common.{◌≡◌}
use Rattle.fields.specs.Fields.{cells_at}
use Rattle.fields.proofs.Snapshot.read_cells.Given as goal

abbrev pub invariant-loop-k : goal.invariant-loop-k
invariant-loop-k l = l.cells ≡ cells_at l.self.bytes.now l.k
