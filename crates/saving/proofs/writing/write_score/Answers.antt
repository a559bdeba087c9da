-- `saving::writing::write_score` meets its contract: stores one after the other.
use Prim.Native.Nat.{◌+◌}
use mathlib.Core.Path.{refl}
use mathlib.Core.List.{[], ◌∷◌, ◌++◌}
use Rattle.layout.specs.Layout.{score_at}
use Rattle.saving.specs.Encoding.{to_bytes, score_bytes}
use Rattle.saving.proofs.ByteLaws.{length-to_bytes, follow}
use Rattle.saving.proofs.writing.write_score.Goals as goal

pub returns : goal.returns
unfolding score_bytes
returns c =
    let s = c.args in
    let R = to_bytes 8 s.s.readings in
    let H = to_bytes 8 s.s.high in
    let L = to_bytes 8 s.s.low in
    let end = c.write_le-3.new.d in
    follow s.d.now score_at (0x15 ∷ []) (R ++ (H ++ L)) c.write_byte.new.d end (score_at + 1) c.write_byte.ensures
    (follow c.write_byte.new.d (score_at + 1) R (H ++ L) c.write_le.new.d end (score_at + 9) c.write_le.ensures
    (follow c.write_le.new.d (score_at + 9) H L c.write_le-2.new.d end (score_at + 17) c.write_le-2.ensures c.write_le-3.ensures (rw (length-to_bytes 8 s.s.high)))
    (rw (length-to_bytes 8 s.s.readings))) refl
