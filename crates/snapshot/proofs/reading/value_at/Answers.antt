-- `snapshot::reading::value_at` meets its contract.
use Prim.Native.Nat.{◌+◌, ◌-◌}
use mathlib.Core.Path.{◌≡◌, ap, ◌∙◌}
use native.Mathlib.Omega.{arith}
use mir.Syntax.{w64}
use mir.Val.{to_z}
use Rattle.integers.proofs.Difference.{back}
use Rattle.operands.proofs.ByteLaws.{operand-alone}
use Rattle.snapshot.proofs.reading.value_at.Goals as goal

pub returns : goal.returns
returns c =
    let a = c.args in
    let e : (a.at + 8) - a.at ≡ 8 = omega arith in
    back w64 _ c.read_i64.type_inv ∙ (rw e at c.read_i64.ensures) ∙ ap (to_z w64) (operand-alone a.s.now a.at 8)
