use Rattle.std.proofs.Common.{◌≡◌, ◌<◌, suc, ◌∙◌, refl, sym, ap, length, get_or, List, ℤ, pos, to_z, of_z, w64, add-one, arith, rules}
use Rattle.integers.proofs.Difference.{back}
use Rattle.calendars.specs.Calendars.{Calendar, calendar_of}
use Rattle.state.proofs.Passing.{bounded}
use Rattle.forecasts.specs.Calendars.{place_by, forecast_by}
use Rattle.forecasts.proofs.CalendarLaws.{walk_start, walk_step, list-length-by}
use Rattle.clock.specs.Windows.{in_window, inside, inside_to}
use Rattle.clock.proofs.WindowLaws.{forecast-at, largest-next, accepted_is, rejected_is}
use Rattle.windows.proofs.largest_inside.Goals as goal
use Rattle.windows.proofs.largest_inside.Goals.{Start}

abbrev lists : Start → Calendar
lists s = calendar_of s.args.skipped.now s.args.repeated.now

day : (s : Start) → length s.args.values.now ≡ 24
day s = ap length s.requires.1 ∙ list-length-by (lists s) s.args.day.state.now 24

pub loop-v-init : goal.loop-v-init
unfolding inside_to
loop-v-init c =
    let s = (goal.at.loop-v-init c).Start in
    (walk_start (lists s) c.args.day.state.now c.args.day.passes c.requires.0 c.start-at.result c.start-at.ensures, refl)

pub overflow_add-n : goal.overflow_add-n
overflow_add-n c =
    let d = day (goal.at.overflow_add-n c).Start in
    omega (arith, c.loop-v.invariant.0.count, (bounded c.args.day.state.now c.args.day.passes).count)

-- the step is taken where its place is inside, and its forecast raises the largest
pub loop-v-preserved : goal.loop-v-preserved
loop-v-preserved c =
    let s = (goal.at.loop-v-preserved c).Start in
    let k = lists s in
    let i = c.loop-v.v-index in
    let below : i < 24 = let d = day s in omega arith in
    let step = walk_step k c.args.day.state.now c.args.day.passes c.requires.0 i c.loop-v.p c.loop-v.n c.loop-v.at c.walk-t.result c.loop-v.invariant.0 c.walk-t.ensures in
    let e = add-one i in
    let v = get_or c.args.values.now i (pos 0) in
    let taken : c.in_window.result ≡ in_window c.args.first c.args.end (place_by k c.args.day.state.now (suc i)) = c.in_window.ensures ∙ ap (in_window c.args.first c.args.end) step.used in
    let value : to_z w64 (of_z w64 v) ≡ forecast_by k c.args.day.state.now (suc i) =
    back w64 v (search rules) ∙ ap (λ (zs : List ℤ). get_or zs i (pos 0)) c.requires.1 ∙ forecast-at k c.args.day.state.now 24 i below in
    (rw e step.next, rw e (c.raised-best.ensures ∙ rw (taken, c.loop-v.invariant.1, value) (largest-next k c.args.day.state.now c.args.first c.args.end i)))

pub returns-in-Some : goal.returns-in-Some
returns-in-Some c =
    let s = (goal.at.returns-in-Some c).Start in
    let e : c.loop-v.v-index ≡ 24 = let d = day s in omega arith in
    let found = rw e at (sym c.loop-v.invariant.1 ∙ c.in-Some.is) in
    rw (back w64 c.in-Some.v (search rules)) (sym (accepted_is (inside (lists s) c.args.day.state.now c.args.first c.args.end) c.in-Some.v found))

pub returns-in-None : goal.returns-in-None
returns-in-None c =
    let s = (goal.at.returns-in-None c).Start in
    let e : c.loop-v.v-index ≡ 24 = let d = day s in omega arith in
    sym (rejected_is (inside (lists s) c.args.day.state.now c.args.first c.args.end) (rw e at (sym c.loop-v.invariant.1 ∙ c.in-None.is)))
