use lib.ListN.{length}
use Rattle.state.proofs.Answers.{check-ends, check-passes, check-keeps-then}
use Rattle.relative_errors.specs.Relative.{relative_code, relative_variance, relative_cells}
use Rattle.relative_errors.specs.Facts.{computed_code, computed_variance, computed_cells}
use Rattle.relative_errors.proofs.Floats.{sigma2-real}
use Rattle.relative_errors.proofs.Bounds.{Taken, taken}
use Rattle.relative_variance.proofs.relative_variance.Goals as goal
use Rattle.relative_variance.proofs.relative_variance.Goals.{In_ok-check_input}

taken_is : (c : In_ok-check_input) → Taken c.args.s c.args.h c.args.sigma2 (length c.args.thetas.now)
taken_is c = taken _ _ _ _ (check-passes _ c.in_ok-check_input.ensures)

pub returns-in_err-check_input : goal.returns-in_err-check_input
unfolding relative_variance relative_cells relative_code
returns-in_err-check_input c =
    let e = c.in_err-check_input.ensures in
    record { answer = check-ends _ _ _ e c.from_residual.ensures.1; buffer = check-keeps-then _ _ _ _ e }

pub invariant_of-r : goal.invariant_of-r
invariant_of-r c =
    let q = (taken_is (goal.at.invariant_of-r c).In_ok-check_input).ready in
    record { passes = q.valid; above = q.least; below = q.most }

pub computed-requires : goal.computed-requires
computed-requires c = (taken_is (goal.at.computed-requires c).In_ok-check_input).fits

pub float_from_bits-sigma2 : goal.float_from_bits-sigma2
float_from_bits-sigma2 c = sigma2-real c.args.sigma2 (taken_is (goal.at.float_from_bits-sigma2 c).In_ok-check_input).sigma2

pub returns : goal.returns
unfolding relative_variance relative_cells relative_code computed_variance computed_cells computed_code
returns c =
    let z = check-passes _ c.in_ok-check_input.ensures in
    record { answer = rw z c.computed.ensures.answer; buffer = rw z c.computed.ensures.cells }
