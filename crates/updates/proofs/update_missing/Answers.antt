use Rattle.state.proofs.Answers.{call-ends, check-passes}
use Rattle.ets.specs.Updates.{update_missing}
use Rattle.ets.proofs.UpdateLaws.{advance-bounded}
use Rattle.updates.proofs.update_missing.Goals as goal

pub returns-in_err-check_advance : goal.returns-in_err-check_advance
unfolding update_missing
returns-in_err-check_advance c = call-ends _ _ c.in_err-check_advance.ensures c.from_residual.ensures.1

pub missing_update-requires : goal.missing_update-requires
missing_update-requires c = advance-bounded c.args.n (check-passes _ c.in_ok-check_advance.ensures)

pub returns : goal.returns
unfolding update_missing
returns c =
    let passes = check-passes _ c.in_ok-check_advance.ensures in
    rw passes c.missing_update.ensures
