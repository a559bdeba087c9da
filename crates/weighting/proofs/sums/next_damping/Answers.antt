use mathlib.Core.Path.{refl}
use native.Mathlib.Omega.{arith}
use borrow.Author.Tests.{lt-ltb, le-ltb}
use Rattle.weighting.proofs.sums.next_damping.Goals as goal

pub returns-then-trend-lt2 : goal.returns-then-trend-lt2
returns-then-trend-lt2 c = rw (lt-ltb _ _ c.if-trend-lt2.true) record { value = refl; bound = omega arith }

pub returns : goal.returns
returns c = rw (le-ltb _ _ c.if-trend-lt2.false) record { value = c.share.ensures.value; bound = c.share.ensures.bound }
