use Rattle.layout.proofs.Rows.{row-of}
use Rattle.layout.specs.CommandTable.{entry_of}
use Rattle.layout.proofs.table.entry_of.Goals as goal

pub returns-in-Ok : goal.returns-in-Ok
returns-in-Ok c = rw (c.length.ensures, c.only_in_snapshot.ensures, row-of c.in-Ok.command, c.in-Ok.ensures)

pub returns-in-Err : goal.returns-in-Err
unfolding entry_of
returns-in-Err c = rw c.in-Err.ensures.0
