use mathlib.Core.Path.{◌≡◌, ◌∙◌}
use native.Mathlib.Omega.{arith}
use lib.IntN.{◌+ℤ◌}
use mir.Syntax.{w64}
use mir.Val.{to_z, of_z}
use Rattle.integers.specs.Bounds.{Within}
use Rattle.integers.proofs.Difference.{back}
use Rattle.integers.proofs.Bounds.{within-le, within-add, within-fits, within-back}
use Rattle.state.specs.Fixed.{share}
use Rattle.state.proofs.Rounding.{share-within}
use Rattle.ets.specs.Steps.{advanced}
use Rattle.ets.specs.Updates.{advance}
use Rattle.updates.proofs.arithmetic.advance.Statement.{statement}
use Rattle.updates.proofs.arithmetic.advance.Tie as tie

module _ (s : tie.Start) where
  level_is : to_z w64 (of_z w64 s.args.n.level) ≡ s.args.n.level
  level_is = within-back w64 s.requires.level (omega arith)

  trend_is : to_z w64 (of_z w64 s.args.n.trend) ≡ s.args.n.trend
  trend_is = within-back w64 s.requires.trend (omega arith)

  level-within : Within 2199023255552 (s.args.n.level +ℤ share s.args.even s.args.n.phi s.args.n.trend)
  level-within = within-add s.requires.level (share-within s.args.even s.requires.phi s.requires.trend)

share-requires : tie.Need-share-damped-requires
share-requires c κs = let p = c.before.requires in rw (trend_is c.before) (p.phi, within-le 8796093022208 (omega arith) p.trend)

damped-is : (c : tie.After-share-damped) → let a = c.before.before.args in to_z w64 (of_z w64 c.share-damped.result) ≡ share a.even a.n.phi a.n.trend
damped-is c = back w64 c.share-damped.result c.share-damped.type_inv ∙ c.share-damped.ensures ∙ rw (trend_is c.before.before)

add-t4 : tie.Need-overflow_add-result
add-t4 c =
    let d = c.before.before in
    let s = d.before.before in
    rw (level_is s, damped-is d) (within-fits w64 (level-within s) (omega arith))

returns : tie.Need-returns
unfolding advance advanced
returns c =
    let d = c.before.before.before in
    let s = d.before.before in
    rw (level_is s, damped-is d, within-back w64 (level-within s) (omega arith), back w64 s.args.n.season c.struct_told-3-1.given.1.1.1.1.1.1.0.1)

pub advance_spec : {M : Type 1} → statement M
advance_spec =
    tie.close
    (tie.spec
    share-requires
    add-t4
    returns)
