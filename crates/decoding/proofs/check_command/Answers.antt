-- `decoding::check_command` meets its contract: each check in its turn, the first with the command's length.
use Rattle.state.specs.Rejections.{unless, unknown_command}
use Rattle.state.proofs.Answers.{check-ends, check-passes, given-accepted}
use Rattle.layout.specs.CommandTable.{is_command, command_size, command_length}
use Rattle.decoding.specs.Decoding.{command_code}
use Rattle.decoding.proofs.DecodingLaws.{call-rejects, call-ends}
use mathlib.Core.Path.{◌≡◌, sym}
use lib.ListN.{get_or}
use Rattle.decoding.proofs.check_command.Goals.{In_ok-size}
use Rattle.decoding.proofs.check_command.Goals as goal

-- the length of a command is the table's
sized : (c : In_ok-size) → let b = get_or c.args.s.now c.args.at 0 in (unless (is_command b) unknown_command ≡ 0) × (command_size b ≡ c.in_ok-size.size)
unfolding command_length
sized c = given-accepted _ _ _ (sym c.in_ok-size.ensures)

pub returns-in_err-size : goal.returns-in_err-size
unfolding command_code command_length
returns-in_err-size c = call-ends _ _ _ _ c.in_err-size.ensures c.from_residual.ensures.1

pub returns-in_err-unless : goal.returns-in_err-unless
unfolding command_code
returns-in_err-unless c =
    let p = sized (goal.at.returns-in_err-unless c).In_ok-size in
    rw p.0 (check-ends _ _ _ (rw c.allowed_here.ensures at c.in_err-unless.ensures) c.from_residual-in_err-unless.ensures.1)

pub returns-in_err-unless-2 : goal.returns-in_err-unless-2
unfolding command_code
returns-in_err-unless-2 c =
    let p = sized (goal.at.returns-in_err-unless-2 c).In_ok-size in
    let q = check-passes _ (rw c.allowed_here.ensures at c.in_ok-unless.ensures) in
    rw (p.0, q, p.1) (call-rejects _ _ _ c.in_err-unless-2.ensures c.from_residual-in_err-unless-2.ensures.1)

pub returns : goal.returns
unfolding command_code
returns c =
    let p = sized (goal.at.returns c).In_ok-size in
    let q = check-passes _ (rw c.allowed_here.ensures at c.in_ok-unless.ensures) in
    rw (p.0, q, p.1, check-passes _ c.in_ok-unless-2.ensures)
