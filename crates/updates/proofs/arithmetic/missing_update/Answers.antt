use mir.Syntax.{w64}
use mir.Val.{SFits}
use mir.ValLaws.{to_z-of_z}
use borrow.Author.Rules.{rules}
use Rattle.state.proofs.Answers.{check-ends, call-ends, check-passes}
use Rattle.ets.specs.Updates.{advance, missing_update}
use Rattle.updates.proofs.arithmetic.missing_update.Goals as goal

pub returns-in_err-check_count : goal.returns-in_err-check_count
unfolding missing_update
returns-in_err-check_count c = check-ends _ _ _ c.in_err-check_count.ensures c.from_residual.ensures.1

pub returns-in_err-unless : goal.returns-in_err-unless
unfolding missing_update advance
returns-in_err-unless c =
    let count = check-passes _ c.in_ok-check_count.ensures in
    let hl : SFits w64 c.advance-u.result.level = search rules in
    rw count (call-ends _ _ (rw (c.in_range.ensures, to_z-of_z w64 c.advance-u.result.level hl, c.advance-u.ensures) at c.in_err-unless.ensures) c.from_residual-in_err-unless.ensures.1)

pub returns : goal.returns
unfolding missing_update advance
returns c =
    let count = check-passes _ c.in_ok-check_count.ensures in
    let hl : SFits w64 c.advance-u.result.level = search rules in
    let level = check-passes _ (rw (c.in_range.ensures, to_z-of_z w64 c.advance-u.result.level hl, c.advance-u.ensures) at c.in_ok-unless.ensures) in
    rw (count, level, c.advance-u.ensures)
