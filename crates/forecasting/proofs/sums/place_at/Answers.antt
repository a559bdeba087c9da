use mathlib.Core.Path.{◌≡◌, refl}
use native.Mathlib.Numerals.{add-one}
use native.Mathlib.Omega.{arith}
use Rattle.calendars.specs.Calendars.{calendar_of}
use Rattle.state.proofs.Passing.{bounded}
use Rattle.forecasts.proofs.CalendarLaws.{place-small, walk_start, walk_step}
use Rattle.forecasting.proofs.sums.place_at.Goals as goal

pub loop-init : goal.loop-init
loop-init c =
    (walk_start (calendar_of c.args.skipped.now c.args.repeated.now) c.args.r.state.now c.args.r.passes c.requires c.start-at.result c.start-at.ensures, refl)

pub overflow_add-n : goal.overflow_add-n
overflow_add-n c = omega (arith, c.loop.invariant.0.count, (bounded c.args.r.state.now c.args.r.passes).count, c.args.r.below)

pub loop-preserved : goal.loop-preserved
loop-preserved c =
    let t = walk_step (calendar_of c.args.skipped.now c.args.repeated.now) c.args.r.state.now c.args.r.passes c.requires c.loop.counter c.loop.p c.loop.n c.loop.at c.walk-t.result c.loop.invariant.0 c.walk-t.ensures in
    let e = add-one c.loop.counter in
    (rw e t.next, rw e t.used)

pub returns : goal.returns
returns c =
    let e : c.loop.counter ≡ c.args.r.horizon = omega arith in
    let u = rw e at c.loop.invariant.1 in
    record { value = u; bound = rw u (place-small (calendar_of c.args.skipped.now c.args.repeated.now) c.args.r.state.now c.args.r.passes c.requires c.args.r.horizon) }
