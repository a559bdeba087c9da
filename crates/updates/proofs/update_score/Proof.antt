-- `ets::updates::update_score` meets its contract.
use mathlib.Core.Path.{◌≡◌, sym, ◌∙◌}
use mathlib.Core.Bool.{◌&&◌}
use mir.Facts.{to_z-of_z}
use Rattle.integers.proofs.Tests.{both}
use Rattle.state.specs.Fixed.{is_residual}
use Rattle.state.specs.Scores.{score_ok}
use Rattle.state.specs.States.{count_ok}
use Rattle.state.proofs.Passing.{is-residual}
use Rattle.ets.specs.Updates.{update_score}
use Rattle.ets.proofs.ScoreLaws.{score-bounded}
use borrow.Author.Rules.{rules}
use Rattle.updates.proofs.update_score.Statement.{statement}
use Rattle.updates.proofs.update_score.Tie as tie

-- the three tests
told : (c : tie.After-is_residual) → let a = c.before.before.before.args in (count_ok a.count && score_ok a.count a.score && is_residual a.e) ≡ (c.before.before.count_ok.result && c.before.score_ok.result && c.is_residual.result)
told c =
    let s = c.before.before.before in
    let e = rw (to_z-of_z s.ranges.e) at c.is_residual.ensures in
    sym (rw (c.before.before.count_ok.ensures, c.before.score_ok.ensures, e))

score-after-requires : tie.Need-score_after-requires
score-after-requires c κs =
    let s = c.before.before.before.before in
    let t = both _ _ (told c.before ∙ c.if-ok.true) in
    let u = both _ _ t.0 in
    (score-bounded s.args.count s.args.score u.0 u.1, rw (to_z-of_z s.ranges.e) (is-residual s.args.e t.1))

returns : tie.Need-returns-then-ok
unfolding update_score
returns c =
    let i = c.before in
    let s = i.before.before.before.before in
    rw (told i.before ∙ i.if-ok.true) (rw (to_z-of_z s.ranges.e) at c.score_after.ensures)

returns-2 : tie.Need-returns
unfolding update_score
returns-2 c = rw (told c.before ∙ c.if-ok.false)

pub update_score_spec : {M : Type 1} → statement M
update_score_spec =
    tie.close
    (tie.spec
    (λ c κs. search rules)
    (λ c κs. search rules)
    (λ c κs. search rules)
    score-after-requires
    returns
    returns-2)
