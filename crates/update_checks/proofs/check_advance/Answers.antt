use mir.Syntax.{w64}
use mir.Val.{SFits}
use borrow.Author.Rules.{rules}
use mir.ValLaws.{to_z-of_z}
use Rattle.state.proofs.Answers.{check-ends, check-passes}
use Rattle.ets.specs.Updates.{advance_code}
use Rattle.update_checks.proofs.check_advance.Goals as goal

pub returns-in_err-unless : goal.returns-in_err-unless
unfolding advance_code
returns-in_err-unless c = check-ends _ _ tt c.in_err-unless.ensures c.from_residual.ensures.1

pub returns-in_err-unless-2 : goal.returns-in_err-unless-2
unfolding advance_code
returns-in_err-unless-2 c =
    let n = c.args.n in
    let hl : SFits w64 n.level = search rules in
    let ht : SFits w64 n.trend = search rules in
    let gain = check-passes _ c.in_ok-unless.ensures in
    rw gain (check-ends _ _ tt (rw (c.in_range-2.ensures, c.in_range.ensures, to_z-of_z w64 n.level hl, to_z-of_z w64 n.trend ht) at c.in_err-unless-2.ensures) c.from_residual-in_err-unless-2.ensures.1)

pub returns : goal.returns
unfolding advance_code
returns c =
    let n = c.args.n in
    let hl : SFits w64 n.level = search rules in
    let ht : SFits w64 n.trend = search rules in
    let gain = check-passes _ c.in_ok-unless.ensures in
    let ranges = check-passes _ (rw (c.in_range-2.ensures, c.in_range.ensures, to_z-of_z w64 n.level hl, to_z-of_z w64 n.trend ht) at c.in_ok-unless-2.ensures) in
    rw (gain, ranges) (rw c.count_ok.ensures at c.unless-3.ensures)
