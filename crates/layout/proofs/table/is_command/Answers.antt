use mathlib.Core.Path.{◌∙◌}
use Rattle.layout.proofs.Rows.{is-command}
use Rattle.layout.proofs.table.is_command.Goals as goal

pub returns : goal.returns
returns c = c.is_ok.ensures.value ∙ is-command _ _ c.try_from.ensures
