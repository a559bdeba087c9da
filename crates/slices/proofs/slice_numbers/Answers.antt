-- `slices::slice_numbers` meets its contract.
use Rattle.state.proofs.Answers.{check-rejects, check-passes}
use Rattle.slices.specs.Slices.{checked_in, opened_in}
use Rattle.snapshot.proofs.Accepting.{accepted-room}
use Rattle.slices.proofs.SliceLaws.{one-snapshot}
use Rattle.slices.proofs.slice_numbers.Goals as goal

pub returns-in_err-check_slice : goal.returns-in_err-check_slice
unfolding opened_in
returns-in_err-check_slice c = check-rejects _ (checked_in c.args.snapshot.now) c.in_err-check_slice.ensures c.from_residual.ensures.1

pub checked_at-requires : goal.checked_at-requires
checked_at-requires c = accepted-room _ (one-snapshot _ (check-passes _ c.in_ok-check_slice.ensures)).0

pub returns : goal.returns
unfolding opened_in
returns c = rw (c.checked_at.ensures, check-passes _ c.in_ok-check_slice.ensures)
