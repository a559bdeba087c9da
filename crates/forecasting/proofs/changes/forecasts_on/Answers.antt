use Prim.Native.Nat.{◌≤◌}
use mathlib.Core.Path.{◌≡◌, refl, ◌∙◌}
use lib.ListN.{length}
use borrow.Author.Tests.{leb-true}
use Rattle.calendars.specs.Calendars.{calendar_of}
use Rattle.state.specs.Rejections.{unless, bad_calendar}
use Rattle.state.proofs.Answers.{check-ends, check-passes, check-rejects, check-keeps, check-keeps-then}
use Rattle.state.proofs.Tests.{then-zero, unless-zero}
use Rattle.ets.specs.Calendars.{calendar_code}
use Rattle.ets.proofs.CalendarLaws.{lists-code, followed, walkable}
use Rattle.forecasts.specs.Forecasts.{forecasts_code_to, forecasts_code}
use Rattle.forecasts.specs.Calendars.{forecasts_code_on, forecasts_on, forecast_cells_on}
use Rattle.forecasts.proofs.ForecastLaws.{Ready, forecast-ready}
use Rattle.forecasting.proofs.changes.forecasts_on.Goals as goal
use Rattle.forecasting.proofs.changes.forecasts_on.Goals.{In_ok-check_forecasts_to, After-calendar_ok, In_ok-unless}

accepted : (c : In_ok-check_forecasts_to) → forecasts_code c.args.s c.args.h (length c.args.values.now) ≡ 0
unfolding forecasts_code_to
accepted c = check-passes _ c.in_ok-check_forecasts_to.ensures

ready : (c : In_ok-check_forecasts_to) → Ready 512 c.args.s c.args.h × (c.args.h ≤ length c.args.values.now)
unfolding forecasts_code_to
ready c =
    let z = then-zero _ _ (accepted c) in
    (forecast-ready 512 _ _ z.0, leb-true _ _ (unless-zero _ 11 z.1))

-- the lists decide
lists : (c : After-calendar_ok) → calendar_code c.args.s.period (calendar_of c.args.skipped.now c.args.repeated.now) ≡ unless c.calendar_ok.result bad_calendar
lists c = lists-code c.args.s.period (calendar_of c.args.skipped.now c.args.repeated.now) c.calendar_ok.result c.calendar_ok.result c.calendar_ok.ensures refl

lists_ok : (c : In_ok-unless) → calendar_code c.args.s.period (calendar_of c.args.skipped.now c.args.repeated.now) ≡ 0
lists_ok c =
    lists-code c.args.s.period (calendar_of c.args.skipped.now c.args.repeated.now) c.calendar_ok.result c.calendar_ok.result c.calendar_ok.ensures refl ∙ check-passes _ c.in_ok-unless.ensures

pub returns-in_err-check_forecasts_to : goal.returns-in_err-check_forecasts_to
unfolding forecasts_on forecast_cells_on forecasts_code_on forecasts_code_to
returns-in_err-check_forecasts_to c =
    let e = c.in_err-check_forecasts_to.ensures in
    record { answer = check-ends _ _ tt e c.from_residual.ensures.1; buffer = check-keeps-then _ _ _ _ e }

pub returns-in_err-unless : goal.returns-in_err-unless
unfolding forecasts_on forecast_cells_on forecasts_code_on
returns-in_err-unless c =
    let at = goal.at.returns-in_err-unless c in
    let a = accepted at.In_ok-check_forecasts_to in
    let l = lists at.After-calendar_ok in
    let e = c.in_err-unless.ensures in
    record { answer = rw (a, l) (check-rejects _ tt e c.from_residual-in_err-unless.ensures.1); buffer = rw (a, l) (check-keeps _ _ _ e) }

pub invariant_of-r : goal.invariant_of-r
invariant_of-r c =
    let q = (ready (goal.at.invariant_of-r c).In_ok-check_forecasts_to).0 in
    record { passes = q.valid; above = q.least; below = q.most }

pub fill-requires : goal.fill-requires
fill-requires c =
    let at = goal.at.fill-requires c in
    (walkable _ _ (followed _ _ (lists_ok at.In_ok-unless)), (ready at.In_ok-check_forecasts_to).1)

pub returns : goal.returns
unfolding forecasts_on forecast_cells_on forecasts_code_on
returns c =
    let at = goal.at.returns c in
    let a = accepted at.In_ok-check_forecasts_to in
    let l = lists_ok at.In_ok-unless in
    record { answer = rw (a, l); buffer = rw (a, l) c.fill.ensures }
