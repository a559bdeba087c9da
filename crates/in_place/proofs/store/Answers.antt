-- `in_place::store` meets its contract: stores one after the other.
use Prim.Native.Nat.{ℕ}
use mathlib.Core.Path.{ap, ap₂, ◌∙◌}
use mathlib.Core.List.{List}
use native.Mathlib.Omega.{arith}
use lib.IntN.{ℤ}
use mir.Syntax.{w64}
use mir.Val.{to_z, of_z}
use mir.ValLaws.{to_z-of_z}
use Rattle.layout.specs.CommandTable.{score_length}
use Rattle.layout.specs.Layout.{score_at}
use Rattle.saving.specs.Encoding.{score_bytes}
use Rattle.saving.proofs.Lengths.{length-score, written-room}
use Rattle.in_place.specs.Facts.{advanced_on, season_put, score_put}
use borrow.Author.Rules.{rules}
use Rattle.in_place.proofs.store.Goals as goal

pub returns : goal.returns
returns c =
    let a = c.args in
    let u = a.u in
    let season = to_z-of_z w64 u.season (search rules) in
    let level = to_z-of_z w64 u.level (search rules) in
    let trend = to_z-of_z w64 u.trend (search rules) in
    let e = c.put_season.ensures ∙ ap (λ (x : ℤ). season_put a.d.now a.m a.p x) season in
    let r = written-room c.put_season.new.d score_at (score_bytes a.score) score_length (length-score a.score) (omega arith) in
    let f = c.rewrite_score.ensures ∙ r ∙ ap (λ (x : List ℕ). score_put x a.score) e in
    c.advance.ensures
    ∙ ap (λ (x : List ℕ). advanced_on x a.m a.p a.count (to_z w64 (of_z w64 u.level)) (to_z w64 (of_z w64 u.trend))) f
    ∙ ap₂ (λ (l b : ℤ). advanced_on (score_put (season_put a.d.now a.m a.p u.season) a.score) a.m a.p a.count l b) level trend
