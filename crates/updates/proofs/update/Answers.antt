use mir.Facts.{to_z-of_z}
use Rattle.state.proofs.Answers.{call-ends, check-passes}
use Rattle.ets.specs.Updates.{update}
use Rattle.ets.proofs.UpdateLaws.{numbers-bounded}
use Rattle.updates.proofs.update.Goals as goal

pub returns-in_err-check_numbers : goal.returns-in_err-check_numbers
unfolding update
returns-in_err-check_numbers c = call-ends _ _ c.in_err-check_numbers.ensures c.from_residual.ensures.1

pub reading_update-requires : goal.reading_update-requires
reading_update-requires c = numbers-bounded c.args.n (check-passes _ c.in_ok-check_numbers.ensures)

pub returns : goal.returns
unfolding update
returns c =
    let passes = check-passes _ c.in_ok-check_numbers.ensures in
    rw passes (rw (to_z-of_z c.ranges.y) at c.reading_update.ensures)
