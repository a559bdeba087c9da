use Rattle.std.proofs.Common.{◌≡◌, ◌<◌, ◌∷◌, ◌∙◌, ap, drop, length, get_or, pos, add-one, w64, arith}
use lib.ListN.{set, length-set}
use lib.Ieee.{Float}
use lib.Ieee.Scale.{finite}
use Rattle.integers.proofs.Difference.{back}
use Rattle.relative_errors.specs.Relative.{squared, thetas, thetas_finite, next_theta, sums_finite}
use Rattle.relative_errors.specs.Facts.{means_in, squares_in}
use Rattle.relative_errors.proofs.Recursion.{turn-list, turn-finite, first-set}
use Rattle.relative_variance.proofs.doubles.fill.Goals as goal

pub loop-i-init : goal.loop-i-init
unfolding thetas thetas_finite next_theta sums_finite
loop-i-init c =
    let m = get_or c.args.mu.now 0 (pos 0) in
    let e : c.square-first.result ≡ squared m = c.square-first.ensures ∙ ap squared (back w64 m (omega (arith, c.requires.3 0 c.requires.0))) in
    let own = set c.args.own.now 0 c.square-first.result in (
      first-set c.args.own.now c.square-first.result (omega (arith, c.requires.0, c.requires.2)) ∙ ap (λ (x : Float). x ∷ drop 1 own) e,
      c.is_finite-sound.ensures ∙ ap finite e,
    )

pub loop-i-preserved : goal.loop-i-preserved
loop-i-preserved c =
    let cells = set c.args.own.now 0 c.square-first.result in
    let long : c.loop-i.i < length cells = simp length-set (omega (arith, c.requires.2)) in
    let means = means_in c.args.mu.now in
    let squares = squares_in c.args.c2.now in
    let t = c.theta-t in
    let fine = c.is_finite-sound-in-loop-i in (
      rw add-one (turn-list means squares c.args.sigma2 c.loop-i.own cells c.loop-i.i c.loop-i.invariant.0 t.result t.ensures long),
      rw add-one (turn-finite means squares c.args.sigma2 c.loop-i.own cells c.loop-i.i c.loop-i.invariant.0 c.loop-i.sound fine.result t.result c.loop-i.invariant.1 t.ensures fine.ensures),
    )
