use mathlib.Core.Path.{◌≡◌, ◌∙◌}
use Prim.Native.Nat.{ℕ, ◌^◌, ◌≤◌, ◌<◌}
use native.Mathlib.Omega.{arith}
use lib.IntN.{ℤ, ◌+ℤ◌}
use lib.Signed.{mag}
use mir.Syntax.{w64}
use mir.Val.{to_z, of_z}
use Rattle.integers.specs.Bounds.{Within}
use Rattle.integers.proofs.Difference.{back}
use Rattle.integers.proofs.Bounds.{within-le, within-add, within-fits, within-back}
use Rattle.state.specs.Fixed.{share}
use Rattle.state.proofs.Rounding.{share-within}
use Rattle.ets.specs.Steps.{new_level, new_trend, new_season}
use Rattle.ets.specs.Updates.{corrections}
use Rattle.updates.proofs.arithmetic.corrections.Statement.{statement}
use Rattle.updates.proofs.arithmetic.corrections.Tie as tie

-- ---- the numbers, over ℤ, and what is read back
module _ (s : tie.Start) where
  wt : Within 2199023255552 (s.args.t.level +ℤ s.args.t.damped)
  wt = within-add s.requires.0.level s.requires.0.damped

  wl : Within 5563094138880 (s.args.t.level +ℤ s.args.t.damped +ℤ share s.args.t.even s.args.t.alpha s.args.e)
  wl = within-add wt (share-within s.args.t.even s.requires.0.alpha s.requires.1)

  wb : Within 4463582511104 (s.args.t.damped +ℤ share s.args.t.even s.args.t.beta s.args.e)
  wb = within-add s.requires.0.damped (share-within s.args.t.even s.requires.0.beta s.requires.1)

  ws : Within 4463582511104 (s.args.t.season +ℤ share s.args.t.even s.args.t.gamma s.args.e)
  ws = within-add s.requires.0.season (share-within s.args.t.even s.requires.0.gamma s.requires.1)

  lb : to_z w64 (of_z w64 s.args.t.level) ≡ s.args.t.level
  lb = within-back w64 s.requires.0.level (omega arith)

  db : to_z w64 (of_z w64 s.args.t.damped) ≡ s.args.t.damped
  db = within-back w64 s.requires.0.damped (omega arith)

  sb : to_z w64 (of_z w64 s.args.t.season) ≡ s.args.t.season
  sb = within-back w64 s.requires.0.season (omega arith)

  eb : to_z w64 (of_z w64 s.args.e) ≡ s.args.e
  eb = within-back w64 s.requires.1 (omega arith)

  -- a call of `share` with e, and its result
  asked : (g : ℕ) → g ≤ 65536 → (g ≤ 65536) × Within 8796093022208 (to_z w64 (of_z w64 s.args.e))
  asked g h = (h, rw eb (within-le 8796093022208 (omega arith) s.requires.1))

  gb : (g : ℕ) (r : ℤ) → mag r < 2 ^ 63 → r ≡ share s.args.t.even g (to_z w64 (of_z w64 s.args.e)) → to_z w64 (of_z w64 r) ≡ share s.args.t.even g s.args.e
  gb g r f e = back w64 r f ∙ e ∙ rw eb

add-t3 : tie.Need-overflow_add-result
add-t3 c = let s = c.before.before in rw (lb s, db s) (within-fits w64 (wt s) (omega arith))

share-requires : tie.Need-share-requires
share-requires c κs = asked c.before.before _ c.before.before.requires.0.alpha

add-t5 : tie.Need-overflow_add-result-2
add-t5 c = let s = c.before.before.before in rw (lb s, db s, within-back w64 (wt s) (omega arith), gb s _ _ c.share.type_inv c.share.ensures) (within-fits w64 (wl s) (omega arith))

share-requires-2 : tie.Need-share-requires-2
share-requires-2 c κs = asked c.before.before.before _ c.before.before.before.requires.0.beta

add-t7 : tie.Need-overflow_add-result-3
add-t7 c = let d = c.before.before in let s = d.before.before.before.before in rw (db s, gb s _ _ d.share-2.type_inv d.share-2.ensures) (within-fits w64 (wb s) (omega arith))

share-requires-3 : tie.Need-share-requires-3
share-requires-3 c κs = let s = c.before.before.before.before.before.before in asked s _ s.requires.0.gamma

add-t9 : tie.Need-overflow_add-result-4
add-t9 c = let d = c.before.before in let s = d.before.before.before.before.before.before.before in rw (sb s, gb s _ _ d.share-3.type_inv d.share-3.ensures) (within-fits w64 (ws s) (omega arith))

returns : tie.Need-returns
unfolding corrections new_level new_trend new_season
returns c =
    let d = c.before.before in
    let b = d.before.before.before in
    let a = b.before in
    let s = a.before.before.before in
    rw (
      gb s _ _ a.share.type_inv a.share.ensures,
      gb s _ _ b.share-2.type_inv b.share-2.ensures,
      gb s _ _ d.share-3.type_inv d.share-3.ensures,
      lb s,
      db s,
      sb s,
      eb s,
      within-back w64 (wt s) (omega arith),
      within-back w64 (wl s) (omega arith),
      within-back w64 (wb s) (omega arith),
      within-back w64 (ws s) (omega arith),
    )

pub corrections_spec : {M : Type 1} → statement M
corrections_spec =
    tie.close
    (tie.spec
    add-t3
    share-requires
    add-t5
    share-requires-2
    add-t7
    share-requires-3
    add-t9
    returns)
