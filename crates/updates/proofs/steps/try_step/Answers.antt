use Rattle.state.proofs.Answers.{check-passes}
use Rattle.state.proofs.Passing.{bounded, valid}
use Rattle.ets.proofs.UpdateLaws.{numbers-in}
use Rattle.updates.proofs.steps.try_step.Goals as goal

pub numbers_of-requires : goal.numbers_of-requires
numbers_of-requires c = (bounded _ (check-passes _ c.in_ok-check.ensures)).index

pub reading_update-requires : goal.reading_update-requires
reading_update-requires c = rw c.numbers_of.ensures (numbers-in _ (valid _ (check-passes _ c.in_ok-check.ensures)))
