use Rattle.state.specs.Rejections.{rejection_of}
use Rattle.state.proofs.Answers.{check-passes}
use Rattle.clock_changes.proofs.calendar_rejection.Goals as goal

pub returns-in-Ok : goal.returns-in-Ok
unfolding rejection_of
returns-in-Ok c = rw (check-passes _ c.in-Ok.ensures)
