-- `snapshot::reading::scan` meets its contract: each command is finished before the next is looked at.
use mathlib.Core.Path.{◌≡◌, sym, ◌∙◌}
use native.Mathlib.Omega.{arith}
use Rattle.snapshot.specs.Snapshots.{model_code, level_code, score_code, scan}
use Rattle.snapshot.proofs.Accepting.{model, score}
use Rattle.snapshot.proofs.Stops.{walk-ends, walk-goes-on}
use Rattle.snapshot.proofs.reading.scan.Goals.{In_ok-stopped_at, In_ok-stopped_at-2, In_ok-stopped_at-3}
use Rattle.snapshot.proofs.reading.scan.Goals as goal

model-passes : (c : In_ok-stopped_at) → model_code c.args.s.now ≡ 0
model-passes c = walk-goes-on _ _ (rw c.check_model.ensures at c.in_ok-stopped_at.ensures)

level-passes : (c : In_ok-stopped_at-2) → level_code c.args.s.now ≡ 0
level-passes c = walk-goes-on _ _ (rw c.check_level.ensures at c.in_ok-stopped_at-2.ensures)

score-passes : (c : In_ok-stopped_at-3) → score_code c.args.s.now ≡ 0
score-passes c = walk-goes-on _ _ (rw c.check_score.ensures at c.in_ok-stopped_at-3.ensures)

pub returns-in_err-stopped_at : goal.returns-in_err-stopped_at
unfolding scan
returns-in_err-stopped_at c = walk-ends _ _ _ (rw c.check_model.ensures at c.in_err-stopped_at.ensures) c.from_residual.ensures.1

pub returns-in_err-stopped_at-2 : goal.returns-in_err-stopped_at-2
unfolding scan
returns-in_err-stopped_at-2 c =
    rw (model-passes (goal.at.returns-in_err-stopped_at-2 c).In_ok-stopped_at)
    (walk-ends _ _ _ (rw c.check_level.ensures at c.in_err-stopped_at-2.ensures) c.from_residual-in_err-stopped_at-2.ensures.1)

pub returns-in_err-stopped_at-3 : goal.returns-in_err-stopped_at-3
unfolding scan
returns-in_err-stopped_at-3 c =
    let g = goal.at.returns-in_err-stopped_at-3 c in
    rw (model-passes g.In_ok-stopped_at, level-passes g.In_ok-stopped_at-2)
    (walk-ends _ _ _ (rw c.check_score.ensures at c.in_err-stopped_at-3.ensures) c.from_residual-in_err-stopped_at-3.ensures.1)

-- a command 10 that was not rejected is there, whole
pub bounds-s-2 : goal.bounds-s-2
bounds-s-2 c = omega (arith, (model _ (model-passes (goal.at.bounds-s-2 c).In_ok-stopped_at)).due.room)

pub returns : goal.returns
unfolding scan
returns c =
    let g = goal.at.returns c in
    rw (model-passes g.In_ok-stopped_at, level-passes g.In_ok-stopped_at-2, score-passes g.In_ok-stopped_at-3) c.scan_seasons.ensures

pub invariant_of-body : goal.invariant_of-body
invariant_of-body c =
    record {
      told = c.is_scored.ensures;
      whole = λ e. score _ (score-passes (goal.at.invariant_of-body c).In_ok-stopped_at-3) (sym c.is_scored.ensures ∙ e);
    }
