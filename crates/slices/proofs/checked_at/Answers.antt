-- `slices::checked_at` meets its contract, number for number.
use Prim.Native.Nat.{◌+◌, ◌-◌, ◌≤◌, ◌<◌}
use mathlib.Core.Path.{◌≡◌, refl, ap, ◌∙◌}
use native.Mathlib.Omega.{arith}
use lib.ListN.{length}
use mir.Syntax.{w64}
use mir.Val.{to_z}
use Rattle.integers.proofs.Difference.{back}
use Rattle.layout.specs.Layout.{end_at, period_in}
use Rattle.layout.proofs.Sizes.{at-fits}
use Rattle.operands.proofs.ByteLaws.{operand-alone, operand-in-part}
use Rattle.slices.proofs.checked_at.Goals.{After-is_scored-scored}
use Rattle.slices.proofs.checked_at.Goals as goal

-- the command 13 lies in the slice, so its offset is small
period-lt : (o : After-is_scored-scored) → period_in o.args.s.now < 256
period-lt o = omega (arith, o.requires.period)

-- by the test of command 15 that was made
end-in : (o : After-is_scored-scored) → end_at o.is_scored-scored.result (period_in o.args.s.now) ≤ length o.args.s.now
end-in o = rw o.is_scored-scored.ensures o.requires.size

pub overflow_add-index : goal.overflow_add-index
overflow_add-index c =
    at-fits c.is_scored-scored.result _ 1 c.season_at-at.ensures (period-lt (goal.at.overflow_add-index c).After-is_scored-scored) (omega arith)

pub bounds-s-at : goal.bounds-s-at
bounds-s-at c = omega (arith, c.season_at-at.ensures, end-in (goal.at.bounds-s-at c).After-is_scored-scored)

pub slice_bounds-head-end : goal.slice_bounds-head-end
slice_bounds-head-end c = omega (arith, end-in (goal.at.slice_bounds-head-end c).After-is_scored-scored)

pub overflow_add-from : goal.overflow_add-from
overflow_add-from c =
    at-fits c.is_scored-scored.result _ 2 c.season_at-at.ensures (period-lt (goal.at.overflow_add-from c).After-is_scored-scored) (omega arith)

pub overflow_add-end : goal.overflow_add-end
overflow_add-end c =
    at-fits c.is_scored-scored.result _ 10 c.season_at-at.ensures (period-lt (goal.at.overflow_add-end c).After-is_scored-scored) (omega arith)

pub season_due-requires : goal.season_due-requires
season_due-requires c = rw (c.season_at-at.ensures, c.is_scored-scored.ensures) (refl, c.requires)

pub slice_bounds-read_u64-end : goal.slice_bounds-read_u64-end
slice_bounds-read_u64-end c = omega (arith, c.season_at-at.ensures, end-in (goal.at.slice_bounds-read_u64-end c).After-is_scored-scored)

pub returns : goal.returns
returns c =
    let s = c.args.s.now in
    let at = c.season_at-at.result in
    let w : (at + 10) - (at + 2) ≡ 8 = omega arith in
    let count = (rw w at c.read_u64.ensures) ∙ operand-alone s (at + 2) 8 in
    let trend = c.read_i64-2.ensures ∙ ap (to_z w64) (operand-in-part s 0 36 28 8 (omega arith)) in
    let level = c.read_i64.ensures ∙ ap (to_z w64) (operand-in-part s 0 36 20 8 (omega arith)) in
    let phi = c.read_u32-4.ensures ∙ operand-in-part s 0 36 15 4 (omega arith) in
    let gamma = c.read_u32-3.ensures ∙ operand-in-part s 0 36 11 4 (omega arith) in
    let beta = c.read_u32-2.ensures ∙ operand-in-part s 0 36 7 4 (omega arith) in
    let alpha = c.read_u32.ensures ∙ operand-in-part s 0 36 3 4 (omega arith) in
    rw (count, back w64 c.season_due.result c.season_due.type_inv, c.season_due.ensures, back w64 c.read_i64-2.result c.read_i64-2.type_inv, trend, back w64 c.read_i64.result c.read_i64.type_inv, level, phi, gamma, beta, alpha, c.ties_to_even.ensures, c.season_at-at.ensures, c.is_scored-scored.ensures)
