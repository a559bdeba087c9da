-- `snapshot::reading::parameter_at` meets its contract.
use Prim.Native.Nat.{◌+◌, ◌-◌}
use mathlib.Core.Path.{◌≡◌, ◌∙◌}
use native.Mathlib.Omega.{arith}
use Rattle.operands.proofs.ByteLaws.{operand-alone}
use Rattle.snapshot.proofs.reading.parameter_at.Goals as goal

pub returns : goal.returns
returns c =
    let a = c.args in
    let e : (a.at + 4) - a.at ≡ 4 = omega arith in
    (rw e at c.read_u32.ensures) ∙ operand-alone a.s.now a.at 4
