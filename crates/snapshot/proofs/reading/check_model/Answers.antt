-- `snapshot::reading::check_model` meets its contract: the command is there, and its checks are taken one after the other.
use Prim.Native.Nat.{◌≤◌}
use mathlib.Core.Path.{◌≡◌}
use native.Mathlib.Omega.{arith}
use lib.ListN.{length}
use Rattle.state.proofs.Answers.{check-ends, check-passes}
use Rattle.layout.specs.CommandTable.{opener, model_length}
use Rattle.layout.specs.Layout.{model_at, outside_in}
use Rattle.snapshot.specs.Snapshots.{due_code, model_code}
use Rattle.snapshot.proofs.Accepting.{due, opener-size, opener-command}
use Rattle.snapshot.proofs.reading.check_model.Goals.{In_ok-due}
use Rattle.snapshot.proofs.reading.check_model.Goals as goal

-- the command that is due is 18 where the bytes begin with it, else 10
passed : (c : In_ok-due) → due_code c.args.s.now model_at (opener (outside_in c.args.s.now)) ≡ 0
passed c = check-passes _ (rw (c.opener.ensures, c.is_outside-outside.ensures) at c.in_ok-due.ensures)

-- it is there, whole
room : (c : In_ok-due) → model_length ≤ length c.args.s.now
room c =
    let s = c.args.s.now in
    rw (opener-size (outside_in s)) at (due s model_at (opener (outside_in s)) (passed c)).room

pub due-requires : goal.due-requires
due-requires c = rw c.opener.ensures (opener-command c.is_outside-outside.result)

pub returns-in_err-due : goal.returns-in_err-due
unfolding model_code
returns-in_err-due c =
    check-ends _ _ tt (rw (c.opener.ensures, c.is_outside-outside.ensures) at c.in_err-due.ensures) c.from_residual.ensures.1

pub bounds-s-1 : goal.bounds-s-1
bounds-s-1 c = omega (arith, room (goal.at.bounds-s-1 c).In_ok-due)

pub returns-in_err-unless : goal.returns-in_err-unless
unfolding model_code
returns-in_err-unless c =
    rw (passed (goal.at.returns-in_err-unless c).In_ok-due)
    (check-ends _ _ tt (rw c.model_ok.ensures at c.in_err-unless.ensures) c.from_residual-in_err-unless.ensures.1)

pub bounds-s-2 : goal.bounds-s-2
bounds-s-2 c = omega (arith, room (goal.at.bounds-s-2 c).In_ok-due)

pub returns-in_err-unless-2 : goal.returns-in_err-unless-2
unfolding model_code
returns-in_err-unless-2 c =
    let p = check-passes _ (rw c.model_ok.ensures at c.in_ok-unless.ensures) in
    rw (passed (goal.at.returns-in_err-unless-2 c).In_ok-due, p)
    (check-ends _ _ tt (rw c.period_ok.ensures at c.in_err-unless-2.ensures) c.from_residual-in_err-unless-2.ensures.1)

pub check_parameters_at-requires : goal.check_parameters_at-requires
check_parameters_at-requires c = room (goal.at.check_parameters_at-requires c).In_ok-due

pub returns : goal.returns
unfolding model_code
returns c =
    let p = check-passes _ (rw c.model_ok.ensures at c.in_ok-unless.ensures) in
    let q = check-passes _ (rw c.period_ok.ensures at c.in_ok-unless-2.ensures) in
    rw (passed (goal.at.returns c).In_ok-due, p, q) (rw c.is_outside-outside.ensures at c.check_parameters_at.ensures)
