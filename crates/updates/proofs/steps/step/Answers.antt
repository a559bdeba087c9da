use mathlib.Core.Path.{◌≡◌, sym, ap, ap₂, ◌∙◌}
use mir.Syntax.{w64}
use mir.Val.{SFits, to_z, of_z}
use mir.Facts.{to_z-of_z}
use mir.ValLaws.{to_z-of_z as same-number}
use borrow.Author.Rules.{rules}
use Rattle.state.proofs.Passing.{valid, is-reading}
use Rattle.ets.specs.Steps.{residual_of, square_at, score_after}
use Rattle.ets.specs.Updates.{corrections, stored}
use Rattle.ets.specs.declared.Update.{Update}
use Rattle.ets.proofs.StepLaws.{step-accepted, step-facts}
use Rattle.ets.proofs.UpdateLaws.{read-accepted, read-rejected, stored_is}
use Rattle.ets.proofs.ScoreLaws.{score-in, residual-within}
use Rattle.updates.proofs.steps.step.Goals as goal

pub score_after-score-requires : goal.score_after-score-requires
unfolding corrections
score_after-score-requires c =
    let s = c.args.s in
    let y = c.args.y in
    let u = c.in-Ok.u in
    let t = read-accepted s y u (rw (to_z-of_z c.ranges.y) at c.in-Ok.ensures) in
    let f = step-facts s y t.0 in
    let hr : SFits w64 u.residual = search rules in
    rw (same-number w64 u.residual hr, ap (λ (v : Update). v.residual) (sym t.1)) (score-in s f.valid, residual-within s f.valid y (is-reading y f.reading))

pub store-requires : goal.store-requires
store-requires c =
    let s = c.args.s in
    let y = c.args.y in
    let t = read-accepted s y c.in-Ok.u (rw (to_z-of_z c.ranges.y) at c.in-Ok.ensures) in
    let f = step-facts s y t.0 in
    ((valid s f.valid).bounded.index, f.room)

pub returns-in-Ok : goal.returns-in-Ok
unfolding corrections
returns-in-Ok c =
    let s = c.args.s in
    let y = c.args.y in
    let u = c.in-Ok.u in
    let t = read-accepted s y u (rw (to_z-of_z c.ranges.y) at c.in-Ok.ensures) in
    let hr : SFits w64 u.residual = search rules in
    let residual-is : to_z w64 (of_z w64 u.residual) ≡ residual_of s y = same-number w64 u.residual hr ∙ ap (λ (v : Update). v.residual) (sym t.1) in
    let score-is : c.score_after-score.result ≡ score_after s.score (square_at s y) = rw (residual-is, c.ties_to_even.ensures) at c.score_after-score.ensures in
    let x = c.store.ensures ∙ ap₂ (stored s) (sym t.1) score-is ∙ stored_is s (valid s (step-facts s y t.0).valid) (residual_of s y) (score_after s.score (square_at s y)) in
    rw (step-accepted s y t.0, x, residual-is)

pub returns-in-Err : goal.returns-in-Err
returns-in-Err c = sym (read-rejected c.args.s c.args.y c.in-Err.rejection (rw (to_z-of_z c.ranges.y) at c.in-Err.ensures))
