use Rattle.std.proofs.Common.{ℕ, ◌+◌, add-one, ap, rules, pos, get_or, true, w64}
use mir.ValLaws.{to_z-of_z}
use mir.Val.{SFits}
use Rattle.layout.specs.Layout.{season_at}
use Rattle.saving.specs.Encoding.{season_bytes, seasons_bytes}
use Rattle.saving.proofs.ByteLaws.{follow}
use Rattle.saving.proofs.Lengths.{length-seasons}
use Rattle.saving.proofs.writing.write_seasons.Goals as goal

pub loop-k-init : goal.loop-k-init
unfolding seasons_bytes
loop-k-init c = search rules

pub loop-k-preserved : goal.loop-k-preserved
unfolding seasons_bytes
loop-k-preserved c =
    let l = c.loop-k in
    let a = c.args in
    let z = get_or a.cells.now l.k (pos 0) in
    let f : SFits w64 z = search rules in
    let e = rw (to_z-of_z w64 z f) at c.write_season.ensures in
    rw add-one (follow a.d.now (season_at true 0) (seasons_bytes a.cells.now l.k) (season_bytes l.k z) l.d _ (season_at true l.k) l.invariant e (ap (λ (n : ℕ). season_at true 0 + n) (length-seasons a.cells.now l.k)))
