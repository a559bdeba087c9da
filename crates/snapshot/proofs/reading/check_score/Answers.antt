-- `snapshot::reading::check_score` meets its contract.
use mathlib.Core.Path.{refl, sym, ◌∙◌}
use Rattle.layout.specs.CommandTable.{is_command, command_size}
use Rattle.snapshot.specs.Snapshots.{score_code}
use Rattle.snapshot.proofs.reading.check_score.Goals as goal

pub due-requires : goal.due-requires
unfolding is_command command_size
due-requires c = refl

pub returns-then-is_scored : goal.returns-then-is_scored
unfolding score_code
returns-then-is_scored c = rw (sym c.is_scored.ensures ∙ c.if-is_scored.true) c.due.ensures

pub returns : goal.returns
unfolding score_code
returns c = rw (sym c.is_scored.ensures ∙ c.if-is_scored.false)
