-- The loop's invariant: what is left of the lists decides as the lists do.
use Rattle.std.proofs.Common.{arith, inl, inr, sym, ◌∙◌, length, ◌<◌}
use borrow.Author.Tests.{ltb-true, ltb-false}
use Rattle.calendars.proofs.ListLaws.{first-lower, second-lower, in_both, one_done}
use Rattle.calendars.proofs.lists_ok.Goals as goal
use Rattle.calendars.proofs.lists_ok.Goals.{in_default, in_default-2}

pub returns-then-not-below_first : goal.returns-then-not-below_first
returns-then-not-below_first c =
    let p : 0 < length c.loop-first.first.now = omega (arith, ltb-false) in
    let q : 0 < length c.loop-first.second.now = omega (arith, ltb-false) in
    rw (← c.loop-first.invariant, first-lower c.loop-first.first.now c.loop-first.second.now p q c.if-x-y.true, ← c.below_first.ensures, c.if-not-below_first.true)

pub loop-first-preserved-else-not-below_first : goal.loop-first-preserved-else-not-below_first
loop-first-preserved-else-not-below_first c =
    let p : 0 < length c.loop-first.first.now = omega (arith, ltb-false) in
    let q : 0 < length c.loop-first.second.now = omega (arith, ltb-false) in
    rw (← c.loop-first.invariant, first-lower c.loop-first.first.now c.loop-first.second.now p q c.if-x-y.true, ← c.below_first.ensures, c.if-not-below_first.false)

pub returns-then-not-below_first-2 : goal.returns-then-not-below_first-2
returns-then-not-below_first-2 c =
    let p : 0 < length c.loop-first.first.now = omega (arith, ltb-false) in
    let q : 0 < length c.loop-first.second.now = omega (arith, ltb-false) in
    rw (← c.loop-first.invariant, second-lower c.loop-first.first.now c.loop-first.second.now p q c.if-y-x.true, ← c.below_first-then-y-x.ensures, c.if-not-below_first-2.true)

pub loop-first-preserved : goal.loop-first-preserved
loop-first-preserved c =
    let p : 0 < length c.loop-first.first.now = omega (arith, ltb-false) in
    let q : 0 < length c.loop-first.second.now = omega (arith, ltb-false) in
    rw (← c.loop-first.invariant, second-lower c.loop-first.first.now c.loop-first.second.now p q c.if-y-x.true, ← c.below_first-then-y-x.ensures, c.if-not-below_first-2.false)

pub returns-else-y-x : goal.returns-else-y-x
returns-else-y-x c =
    let p : 0 < length c.loop-first.first.now = omega (arith, ltb-false) in
    let q : 0 < length c.loop-first.second.now = omega (arith, ltb-false) in
    sym (in_both _ _ p q (omega arith)) ∙ c.loop-first.invariant

pub returns-then-rising : goal.returns-then-rising
returns-then-rising c =
    let l = c.loop-first in
    let e = one_done l.first.now l.second.now (elim c.if-first-lt1.branch [ in_default w ↦ inl w.in_default.len_below | in_default-2 w ↦ inr (omega (arith, ltb-true, ltb-false)) ]) in
    rw (← l.invariant, e, ← c.rising.ensures, c.if-rising.true, c.rising-then-rising.ensures)
