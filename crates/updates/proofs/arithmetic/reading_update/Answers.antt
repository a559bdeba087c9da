use mir.Syntax.{w64}
use mir.Facts.{to_z-of_z}
use Rattle.integers.proofs.Difference.{back}
use Rattle.state.proofs.Answers.{check-ends, call-ends, check-passes}
use Rattle.state.specs.Rejections.{unless, leaves_range}
use Rattle.ets.specs.Steps.{residual, stays_in_range}
use Rattle.ets.specs.Updates.{terms_at, corrections, reading_update}
use Rattle.ets.proofs.UpdateLaws.{terms-in, early-then, early-passes}
use Rattle.updates.proofs.arithmetic.reading_update.Goals as goal

pub returns-in_err-check_early : goal.returns-in_err-check_early
unfolding reading_update
returns-in_err-check_early c =
    rw (early-then (terms_at c.args.even c.args.n) c.args.n.count c.args.y)
    (check-ends _ _ _ (rw (to_z-of_z c.ranges.y) at c.in_err-check_early.ensures) c.from_residual.ensures.1)

pub residual-requires : goal.residual-requires
residual-requires c =
    let early = early-passes (terms_at c.args.even c.args.n) c.args.n.count c.args.y (check-passes _ (rw (to_z-of_z c.ranges.y) at c.in_ok-check_early.ensures)) in
    rw (c.terms_at-t.ensures, to_z-of_z c.ranges.y) (terms-in c.args.even c.requires, early.reading)

pub corrections-u-requires : goal.corrections-u-requires
corrections-u-requires c =
    rw (back w64 c.residual.result c.residual.type_inv) (rw c.terms_at-t.ensures (terms-in c.args.even c.requires), c.residual.ensures.bound)

-- what was computed are the corrections of the arguments themselves
pub returns-in_err-unless : goal.returns-in_err-unless
unfolding reading_update corrections
returns-in_err-unless c =
    let t = terms_at c.args.even c.args.n in
    let early = early-passes t c.args.n.count c.args.y (check-passes _ (rw (to_z-of_z c.ranges.y) at c.in_ok-check_early.ensures)) in
    let computed = rw (back w64 c.residual.result c.residual.type_inv, c.residual.ensures.value, c.terms_at-t.ensures, to_z-of_z c.ranges.y) at c.corrections-u.ensures in
    rw early.later (call-ends (unless (stays_in_range t (residual t c.args.y)) leaves_range) _ (rw (c.stays.ensures, computed) at c.in_err-unless.ensures) c.from_residual-in_err-unless.ensures.1)

pub returns : goal.returns
unfolding reading_update corrections
returns c =
    let t = terms_at c.args.even c.args.n in
    let early = early-passes t c.args.n.count c.args.y (check-passes _ (rw (to_z-of_z c.ranges.y) at c.in_ok-check_early.ensures)) in
    let computed = rw (back w64 c.residual.result c.residual.type_inv, c.residual.ensures.value, c.terms_at-t.ensures, to_z-of_z c.ranges.y) at c.corrections-u.ensures in
    let stays = check-passes (unless (stays_in_range t (residual t c.args.y)) leaves_range) (rw (c.stays.ensures, computed) at c.in_ok-unless.ensures) in
    rw (early.later, computed, stays)
