use mathlib.Core.Path.{◌≡◌, refl}
use native.Mathlib.Nat.{le_refl}
use native.Mathlib.Omega.{arith}
use lib.IntN.{pos, ◌+ℤ◌, ◌-ℤ◌, ◌*ℤ◌}
use mir.Syntax.{w32, w64}
use mir.Val.{to_z, of_z}
use mir.ValLaws.{to_z-of_z}
use Rattle.integers.specs.Bounds.{Within}
use Rattle.integers.proofs.Bounds.{within-add, within-sub, within-mul, within-fits, within-back}
use Rattle.ets.specs.Steps.{residual}
use Rattle.updates.proofs.arithmetic.residual.Statement.{statement}
use Rattle.updates.proofs.arithmetic.residual.Tie as tie

-- ---- the numbers, over ℤ, and what is read back
module _ (s : tie.Start) where
  wt : Within 2199023255552 (s.args.t.level +ℤ s.args.t.damped)
  wt = within-add s.requires.0.level s.requires.0.damped

  wq : Within 3298534883328 (s.args.t.level +ℤ s.args.t.damped +ℤ s.args.t.season)
  wq = within-add wt s.requires.0.season

  wm : Within 65536000000 (pos 65536 *ℤ s.args.y)
  wm = within-mul (le_refl 65536) s.requires.1

  we : Within 3364070883328 (pos 65536 *ℤ s.args.y -ℤ (s.args.t.level +ℤ s.args.t.damped +ℤ s.args.t.season))
  we = within-sub wm wq

  lb : to_z w64 (of_z w64 s.args.t.level) ≡ s.args.t.level
  lb = within-back w64 s.requires.0.level (omega arith)

  db : to_z w64 (of_z w64 s.args.t.damped) ≡ s.args.t.damped
  db = within-back w64 s.requires.0.damped (omega arith)

  sb : to_z w64 (of_z w64 s.args.t.season) ≡ s.args.t.season
  sb = within-back w64 s.requires.0.season (omega arith)

  yb : to_z w64 (of_z w64 (to_z w32 (of_z w32 s.args.y))) ≡ s.args.y
  yb = rw (to_z-of_z w32 _ s.ranges.y) (within-back w64 s.requires.1 (omega arith))

cast-result : tie.Need-overflow_cast-result
cast-result c = rw (to_z-of_z w32 _ c.ranges.y) (within-fits w64 c.requires.1 (omega arith))

mul-result : tie.Need-overflow_mul-result
mul-result c = rw (yb c) (within-fits w64 (wm c) (omega arith))

add-result : tie.Need-overflow_add-result
add-result c = let s = c.before.before in rw (lb s, db s) (within-fits w64 (wt s) (omega arith))

add-result-2 : tie.Need-overflow_add-result-2
add-result-2 c = let s = c.before.before.before.before in rw (lb s, db s, within-back w64 (wt s) (omega arith), sb s) (within-fits w64 (wq s) (omega arith))

sub-result : tie.Need-overflow_sub-result
sub-result c =
    let s = c.before.before.before.before in
    rw (yb s, within-back w64 (wm s) (omega arith), lb s, db s, within-back w64 (wt s) (omega arith), sb s, within-back w64 (wq s) (omega arith)) (within-fits w64 (we s) (omega arith))

returns : tie.Need-returns
unfolding residual
returns c =
    let s = c.before.before.before.before in
    rw (yb s, within-back w64 (wm s) (omega arith), lb s, db s, within-back w64 (wt s) (omega arith), sb s, within-back w64 (wq s) (omega arith), within-back w64 (we s) (omega arith)) (refl, we s)

pub residual_spec : {M : Type 1} → statement M
residual_spec =
    tie.close
    (tie.spec
    cast-result
    mul-result
    add-result
    add-result-2
    sub-result
    returns)
