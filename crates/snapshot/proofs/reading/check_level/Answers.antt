-- `snapshot::reading::check_level` meets its contract.
use mathlib.Core.Path.{refl}
use Rattle.state.proofs.Answers.{check-ends, check-passes}
use Rattle.layout.specs.CommandTable.{is_command, command_size}
use Rattle.layout.specs.Layout.{level_at}
use Rattle.snapshot.specs.Snapshots.{level_code}
use Rattle.snapshot.proofs.Accepting.{due}
use Rattle.snapshot.proofs.reading.check_level.Goals as goal

pub due-requires : goal.due-requires
unfolding is_command command_size
due-requires c = refl

pub returns-in_err-due : goal.returns-in_err-due
unfolding level_code
returns-in_err-due c = check-ends _ _ tt c.in_err-due.ensures c.from_residual.ensures.1

pub values_at-requires : goal.values_at-requires
unfolding command_size
values_at-requires c = (due _ level_at 0x11 (check-passes _ c.in_ok-due.ensures)).room

pub returns : goal.returns
unfolding level_code
returns c = rw (check-passes _ c.in_ok-due.ensures) (rw c.values_at.ensures at c.unless.ensures)
