-- `in_place::advance` meets its contract: stores one after the other.
use Prim.Native.Nat.{ℕ}
use mathlib.Core.Path.{ap, ap₂, ◌∙◌}
use mathlib.Core.List.{List}
use native.Mathlib.Omega.{arith}
use lib.IntN.{ℤ}
use mir.Facts.{to_z-of_z}
use Rattle.layout.specs.CommandTable.{level_length}
use Rattle.layout.specs.Layout.{level_at}
use Rattle.saving.specs.Encoding.{level_bytes}
use Rattle.saving.specs.Saving.{written}
use Rattle.saving.proofs.Lengths.{length-level, written-room}
use Rattle.in_place.specs.Facts.{moved_on}
use Rattle.in_place.proofs.advance.Goals as goal

pub returns : goal.returns
returns c =
    let m = c in
    let l = m in
    let s = l in
    let a = s.args in
    let e = l.rewrite_level.ensures ∙ ap₂ (λ (x y : ℤ). written a.d.now level_at (level_bytes x y)) (to_z-of_z s.ranges.level) (to_z-of_z s.ranges.trend) ∙ written-room a.d.now level_at (level_bytes a.level a.trend) level_length (length-level a.level a.trend) (omega arith) in
    m.move_on.ensures ∙ ap (λ (x : List ℕ). moved_on x a.m a.p a.count) e
