-- `layout::table::only_in_snapshot` meets its contract.
use Rattle.std.proofs.Common.{rules}
use Rattle.layout.proofs.Rows.{only-in-snapshot}
use Rattle.layout.proofs.table.only_in_snapshot.Goals as goal

pub returns : goal.returns
returns c = only-in-snapshot c.args.b (rw c.entry_of.ensures at c.is_some_and.ensures) (λ e k. search rules)
