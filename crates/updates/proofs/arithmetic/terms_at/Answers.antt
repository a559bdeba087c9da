use mathlib.Core.Path.{◌∙◌}
use native.Mathlib.Omega.{arith}
use mir.Syntax.{w64}
use Rattle.integers.proofs.Difference.{back}
use Rattle.integers.proofs.Bounds.{within-le, within-back}
use Rattle.updates.proofs.arithmetic.terms_at.Goals as goal

pub share-requires : goal.share-requires
share-requires c = let p = c.requires in rw (within-back w64 p.trend (omega arith)) (p.phi, within-le 8796093022208 (omega arith) p.trend)

pub returns : goal.returns
returns c =
    let p = c.requires in
    let d = back w64 c.share.result c.share.type_inv ∙ c.share.ensures in
    rw (d, within-back w64 p.level (omega arith), within-back w64 p.season (omega arith), within-back w64 p.trend (omega arith))
