use Rattle.layout.proofs.Rows.{length-of, no-length}
use Rattle.layout.proofs.table.command_length.Goals as goal

pub returns-in_err-try_from : goal.returns-in_err-try_from
returns-in_err-try_from c = no-length _ c.in_err-try_from.ensures c.from_residual.ensures.1

pub returns : goal.returns
returns c = rw (c.length.ensures, length-of c.in_ok-try_from.field-0, c.in_ok-try_from.ensures)
