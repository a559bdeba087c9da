-- `saving::writing::write_snapshot` meets its contract: the commands are written one after the other.
use Prim.Native.Nat.{ℕ, ◌+◌}
use mathlib.Core.Path.{ap}
use mathlib.Core.Bool.{true}
use mathlib.Core.List.{◌++◌}
use mir.Syntax.{w64}
use mir.Val.{SFits}
use mir.ValLaws.{to_z-of_z}
use borrow.Author.Rules.{rules}
use Rattle.layout.specs.Layout.{model_at, level_at, score_at, season_at}
use Rattle.saving.specs.Encoding.{model_bytes, level_bytes, score_bytes, seasons_bytes, position_bytes, encoded}
use Rattle.saving.proofs.ByteLaws.{follow}
use Rattle.saving.proofs.Lengths.{length-model, length-level, length-score, length-seasons}
use Rattle.saving.proofs.writing.write_snapshot.Goals as goal

pub returns : goal.returns
unfolding encoded
returns c =
    let a = c.args in
    let s = a.s in
    let L = level_bytes s.level s.trend in
    let C = score_bytes s.score in
    let X = seasons_bytes s.seasonal s.period in
    let Y = position_bytes s.index s.count in
    let end = c.write_position.new.d in
    let hl : SFits w64 s.level = search rules in
    let ht : SFits w64 s.trend = search rules in
    let v = rw (to_z-of_z w64 s.level hl, to_z-of_z w64 s.trend ht) at c.write_level.ensures in
    follow a.d.now model_at (model_bytes s.outside s.model s.period s.alpha s.beta s.gamma s.phi) (L ++ (C ++ (X ++ Y))) c.write_model.new.d end level_at c.write_model.ensures
    (follow c.write_model.new.d level_at L (C ++ (X ++ Y)) c.write_level.new.d end score_at v
    (follow c.write_level.new.d score_at C (X ++ Y) c.write_score.new.d end (season_at true 0) c.write_score.ensures
    (follow c.write_score.new.d (season_at true 0) X Y c.write_seasons.new.d end (season_at true s.period) c.write_seasons.ensures c.write_position.ensures (ap (λ (n : ℕ). season_at true 0 + n) (length-seasons s.seasonal s.period)))
    (rw (length-score s.score)))
    (rw (length-level s.level s.trend))) (rw (length-model s.outside s.model s.period s.alpha s.beta s.gamma s.phi))
