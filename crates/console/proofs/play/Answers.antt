use Rattle.std.proofs.Common.{sym, ◌∙◌}
use Rattle.streams.proofs.StreamLaws.{last-admitted, last-rejected}
use Rattle.console.proofs.play.Goals as goal

pub returns-in-Ok : goal.returns-in-Ok
returns-in-Ok c = c.play_commands.ensures ∙ sym (last-admitted _ (sym c.admit.ensures ∙ c.in-Ok.is))

pub returns-in-Err : goal.returns-in-Err
returns-in-Err c = c.reject_stream.ensures ∙ sym (last-rejected _ _ (sym c.admit.ensures ∙ c.in-Err.is))
