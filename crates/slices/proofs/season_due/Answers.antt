-- `slices::season_due` meets its contract.
use Prim.Native.Nat.{ℕ, ◌+◌, ◌-◌}
use mathlib.Core.Path.{◌≡◌, ap, ◌∙◌}
use native.Mathlib.Omega.{arith}
use borrow.Author.Tests.{eq-eqb, ne_eqb}
use mir.Syntax.{w64}
use mir.Val.{to_z}
use Rattle.integers.proofs.Difference.{back}
use Rattle.layout.specs.Bytes.{signed_at}
use Rattle.layout.proofs.Sizes.{at-fits}
use Rattle.operands.proofs.ByteLaws.{operand-alone}
use Rattle.slices.proofs.season_due.Goals as goal

pub returns-then-m-eq0 : goal.returns-then-m-eq0
returns-then-m-eq0 c = rw (eq-eqb _ _ c.if-m-eq0.true)

pub overflow_add-from : goal.overflow_add-from
overflow_add-from c =
    let a = c in
    at-fits a.args.scored a.args.p 2 c.season_at-at.ensures a.ranges.p.fits (omega arith)

pub overflow_add-end : goal.overflow_add-end
overflow_add-end c =
    let a = c in
    at-fits a.args.scored a.args.p 10 c.season_at-at.ensures a.ranges.p.fits (omega arith)

pub slice_bounds-read_i64-end : goal.slice_bounds-read_i64-end
slice_bounds-read_i64-end c =
    let a = c in
    omega (arith, c.season_at-at.ensures, c.if-m-eq0.false, a.requires.1.size, a.requires.1.index)

pub returns : goal.returns
returns c =
    let x = c in
    let i = x in
    let a = i in
    let s = a.args.s.now in
    let at = x.season_at-at.result in
    let e : (at + 10) - (at + 2) ≡ 8 = omega arith in
    let v =
    back w64 _ c.read_i64.type_inv
    ∙ (rw e at c.read_i64.ensures)
    ∙ ap (to_z w64) (operand-alone s (at + 2) 8)
    ∙ ap (λ (n : ℕ). signed_at s (n + 2)) x.season_at-at.ensures in
    rw (ne_eqb _ _ i.if-m-eq0.false, ← a.requires.0) v
