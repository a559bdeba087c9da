-- `saving::writing::write_level` meets its contract: stores one after the other.
use Prim.Native.Nat.{◌+◌}
use mathlib.Core.Path.{refl}
use mathlib.Core.List.{[], ◌∷◌, ◌++◌}
use mir.Syntax.{w64}
use mir.Val.{of_z}
use mir.ValLaws.{to_z-of_z}
use Rattle.layout.specs.Layout.{level_at}
use Rattle.saving.specs.Encoding.{signed_bytes, level_bytes}
use Rattle.saving.proofs.ByteLaws.{length-to_bytes, follow}
use Rattle.saving.proofs.writing.write_level.Goals as goal

pub returns : goal.returns
unfolding level_bytes
returns c =
    let L = signed_bytes c.args.level in
    let T = signed_bytes c.args.trend in
    let l = rw (to_z-of_z w64 c.args.level c.ranges.level) at c.write_i64.ensures in
    let b = rw (to_z-of_z w64 c.args.trend c.ranges.trend) at c.write_i64-2.ensures in
    follow c.args.d.now level_at (0x11 ∷ []) (L ++ T) c.write_byte.new.d c.write_i64-2.new.d (level_at + 1) c.write_byte.ensures
    (follow c.write_byte.new.d (level_at + 1) L T c.write_i64.new.d c.write_i64-2.new.d (level_at + 9) l b (rw (length-to_bytes 8 (of_z w64 c.args.level)))) refl
