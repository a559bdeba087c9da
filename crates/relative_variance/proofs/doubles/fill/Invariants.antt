-- The loop's invariant: the first i of `own` are θ of 1 to i, and sound says that they and each S are finite.
use Rattle.std.proofs.Common.{◌≡◌, ◌++◌, drop}
use Rattle.relative_errors.specs.Relative.{thetas, thetas_finite}
use Rattle.relative_errors.specs.Facts.{means_in, squares_in}
use Rattle.relative_variance.proofs.doubles.fill.Given as goal

abbrev pub invariant-loop-i : goal.invariant-loop-i
invariant-loop-i l =
    (l.own ≡ thetas (means_in l.mu) (squares_in l.c2) l.sigma2 l.i ++ drop l.i l.initial.own)
    × (l.sound ≡ thetas_finite (means_in l.mu) (squares_in l.c2) l.sigma2 l.i)
