use Rattle.std.proofs.Common.{◌≡◌, ◌+◌, ◌-◌, arith, ap, take, ◌∙◌}
use Rattle.saving.specs.Encoding.{to_bytes}
use Rattle.saving.proofs.ByteLaws.{low-bytes, length-to_bytes, stored}
use Rattle.saving.proofs.bytes.write_le.Goals as goal

pub returns : goal.returns
returns c =
    let a = c.args in
    let n : a.at + a.k - a.at ≡ a.k = omega arith in
    let e = c.copy_from_slice.ensures.after ∙ ap (take a.k) c.to_le_bytes.ensures ∙ low-bytes a.k a.x c.requires.0 in
    rw (n, e) (stored a.d.now a.at a.k (to_bytes a.k a.x) (length-to_bytes a.k a.x) c.requires.1)
