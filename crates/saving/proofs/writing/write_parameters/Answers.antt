-- `saving::writing::write_parameters` meets its contract: stores one after the other.
use mathlib.Core.List.{◌++◌}
use Rattle.saving.specs.Encoding.{to_bytes}
use Rattle.saving.proofs.ByteLaws.{length-to_bytes, follow}
use Rattle.saving.proofs.writing.write_parameters.Goals as goal

pub returns : goal.returns
returns c =
    let s = c.args in
    let A = to_bytes 4 s.alpha in
    let B = to_bytes 4 s.beta in
    let G = to_bytes 4 s.gamma in
    let F = to_bytes 4 s.phi in
    let end = c.write_le-4.new.d in
    follow s.d.now 3 A (B ++ (G ++ F)) c.write_le.new.d end 7 c.write_le.ensures
    (follow c.write_le.new.d 7 B (G ++ F) c.write_le-2.new.d end 11 c.write_le-2.ensures
    (follow c.write_le-2.new.d 11 G F c.write_le-3.new.d end 15 c.write_le-3.ensures c.write_le-4.ensures (rw (length-to_bytes 4 s.gamma)))
    (rw (length-to_bytes 4 s.beta))) (rw (length-to_bytes 4 s.alpha))
