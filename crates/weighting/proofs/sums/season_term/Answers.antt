use mathlib.Core.Path.{refl}
use native.Mathlib.Omega.{arith}
use borrow.Author.Tests.{ne_eqb}
use Rattle.weighting.proofs.sums.season_term.Goals as goal

pub returns-then-remainder-eq0 : goal.returns-then-remainder-eq0
returns-then-remainder-eq0 c = rw c.if-remainder-eq0.true (refl, omega arith)

pub returns-else-remainder-eq0 : goal.returns-else-remainder-eq0
returns-else-remainder-eq0 c = rw (ne_eqb _ _ c.if-remainder-eq0.false) (refl, omega arith)
