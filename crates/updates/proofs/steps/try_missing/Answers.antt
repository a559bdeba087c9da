use Rattle.state.proofs.Answers.{check-passes}
use Rattle.state.proofs.Passing.{bounded}
use Rattle.updates.proofs.steps.try_missing.Goals as goal

pub numbers_of-requires : goal.numbers_of-requires
numbers_of-requires c = (bounded _ (check-passes _ c.in_ok-check.ensures)).index

pub missing_update-requires : goal.missing_update-requires
missing_update-requires c =
    let b = bounded _ (check-passes _ c.in_ok-check.ensures) in
    rw c.numbers_of.ensures (record { phi = b.phi; level = b.level; trend = b.trend })
