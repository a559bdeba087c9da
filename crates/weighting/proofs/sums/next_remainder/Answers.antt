use mathlib.Core.Path.{refl}
use native.Mathlib.Omega.{arith}
use borrow.Author.Tests.{eq-eqb, ne_eqb}
use Rattle.weighting.proofs.sums.next_remainder.Goals as goal

pub returns-then-n-m : goal.returns-then-n-m
returns-then-n-m c = rw (eq-eqb _ _ c.if-n-m.true) (refl, omega arith)

pub returns-else-n-m : goal.returns-else-n-m
returns-else-n-m c = rw (ne_eqb _ _ c.if-n-m.false) (refl, omega arith)
