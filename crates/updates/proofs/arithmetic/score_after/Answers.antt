-- `ets::arithmetic::score_after` meets its contract.
use native.Mathlib.Omega.{arith}
use mir.Syntax.{w64}
use Rattle.integers.proofs.Bounds.{within-back}
use Rattle.updates.proofs.arithmetic.score_after.Goals as goal

pub square-requires : goal.square-requires
square-requires c = rw (within-back w64 c.requires.1 (omega arith)) c.requires.1

pub add_square-requires : goal.add_square-requires
add_square-requires c = (c.requires.0, c.square.ensures.bound)

pub returns : goal.returns
returns c =
    let q = c in
    rw (c.add_square.ensures, q.square.ensures.value, within-back w64 q.requires.1 (omega arith))
