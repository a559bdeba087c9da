use mathlib.Core.Bool.{false}
use mathlib.Core.Path.{◌≡◌}
use borrow.Author.Tests.{leb-true}
use Rattle.state.proofs.Answers.{check-ends, check-passes, check-rejects, check-keeps, check-keeps-then}
use Rattle.state.proofs.Tests.{unless-zero}
use Rattle.weights.specs.Weights.{class_one_code}
use Rattle.weights.specs.Groups.{weight_groups_code, weight_groups, weight_group_cells}
use Rattle.weights.proofs.Rejecting.{errors-ready}
use Rattle.weighting.proofs.groups.weight_groups.Goals as goal
use Rattle.weighting.proofs.groups.weight_groups.Goals.{In_ok-check_errors}

accepted : (c : In_ok-check_errors) → class_one_code c.args.s c.args.h ≡ 0
accepted c = check-passes _ c.in_ok-check_errors.ensures

pub returns-in_err-check_errors : goal.returns-in_err-check_errors
unfolding weight_groups_code weight_groups weight_group_cells
returns-in_err-check_errors c =
    let e = c.in_err-check_errors.ensures in
    record { answer = check-ends _ _ tt e c.from_residual.ensures.1; buffer = check-keeps-then _ _ _ _ e }

pub returns-in_err-unless : goal.returns-in_err-unless
unfolding weight_groups_code weight_groups weight_group_cells
returns-in_err-unless c =
    let a = accepted (goal.at.returns-in_err-unless c).In_ok-check_errors in
    let e = rw c.group_count.ensures at c.in_err-unless.ensures in
    record { answer = rw a (check-rejects _ tt e c.from_residual-in_err-unless.ensures.1); buffer = rw a (check-keeps _ _ _ e) }

pub invariant_of-r : goal.invariant_of-r
invariant_of-r c =
    let q = errors-ready false c.args.s c.args.h (accepted (goal.at.invariant_of-r c).In_ok-check_errors) in
    record { passes = q.valid; above = q.least; below = q.most }

pub add_squares-requires : goal.add_squares-requires
add_squares-requires c =
    leb-true _ _ (unless-zero _ 11 (check-passes _ (rw c.group_count.ensures at c.in_ok-unless.ensures)))

pub returns : goal.returns
unfolding weight_groups_code weight_groups weight_group_cells
returns c =
    let a = accepted (goal.at.returns c).In_ok-check_errors in
    let z = check-passes _ (rw c.group_count.ensures at c.in_ok-unless.ensures) in
    record { answer = rw (a, z); buffer = rw (a, z) c.add_squares.ensures }
