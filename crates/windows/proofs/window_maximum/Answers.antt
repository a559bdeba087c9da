use Prim.Native.Nat.{ℕ}
use mathlib.Core.Path.{◌≡◌, sym, ◌∙◌}
use mathlib.Core.List.{append-nil}
use native.Mathlib.Omega.{arith}
use Rattle.calendars.specs.Calendars.{Calendar, calendar_of}
use Rattle.state.specs.Rejections.{unless, ◌then◌, bad_calendar}
use Rattle.state.specs.States.{check}
use Rattle.state.specs.declared.State.{State}
use Rattle.state.proofs.Answers.{check-ends, check-passes}
use Rattle.state.proofs.Tests.{then-assoc, then-zero}
use Rattle.ets.specs.Calendars.{calendar_code}
use Rattle.ets.proofs.CalendarLaws.{followed, walkable}
use Rattle.forecasts.specs.Forecasts.{forecast_code_to, forecasts_code_to}
use Rattle.forecasts.specs.Calendars.{forecast_list_by, forecasts_code_on, forecasts_on, forecast_cells_on}
use Rattle.clock.specs.Windows.{window_ok, inside, is_some, window_code, window_maximum}
use Rattle.windows.proofs.window_maximum.Goals as goal
use Rattle.windows.proofs.window_maximum.Goals.{In_ok-forecasts_on}

-- a day's forecasts have a horizon and cells, so that the state and the lists alone reject them
day-code : (k : Calendar) (s : State) → forecasts_code_on k s 24 24 ≡ (check s then calendar_code s.period k)
unfolding forecasts_code_on forecasts_code_to forecast_code_to
day-code k s =
    then-assoc (check s then 0) 0 (calendar_code s.period k) ∙ then-assoc (check s) 0 (calendar_code s.period k)

window-code : (k : Calendar) (s : State) (start end : ℕ) → window_code k s start end ≡ (forecasts_code_on k s 24 24 then unless (window_ok start end) bad_calendar then unless (is_some (inside k s start end)) bad_calendar)
unfolding window_code
window-code k s start end = rw (day-code k s) (sym (then-assoc (check s) (calendar_code s.period k) _))

passed : (c : In_ok-forecasts_on) → forecasts_code_on (calendar_of c.args.skipped.now c.args.repeated.now) c.args.s 24 24 ≡ 0
unfolding forecasts_on
passed c = check-passes _ c.in_ok-forecasts_on.ensures.answer

codes : (c : In_ok-forecasts_on) → (check c.args.s ≡ 0) × (calendar_code c.args.s.period (calendar_of c.args.skipped.now c.args.repeated.now) ≡ 0)
codes c = then-zero _ _ (sym (day-code _ c.args.s) ∙ passed c)

pub returns-in_err-forecasts_on : goal.returns-in_err-forecasts_on
unfolding window_maximum forecasts_on
returns-in_err-forecasts_on c =
    rw (window-code _ c.args.s c.args.first c.args.end) (check-ends _ _ _ c.in_err-forecasts_on.ensures.answer c.from_residual.ensures.1)

pub returns-in_err-unless : goal.returns-in_err-unless
unfolding window_maximum
returns-in_err-unless c =
    rw (window-code _ c.args.s c.args.first c.args.end, passed (goal.at.returns-in_err-unless c).In_ok-forecasts_on)
    (check-ends _ _ _ (rw c.window_ok.ensures at c.in_err-unless.ensures) c.from_residual-in_err-unless.ensures.1)

pub invariant_of-day : goal.invariant_of-day
invariant_of-day c =
    record { passes = (codes (goal.at.invariant_of-day c).In_ok-forecasts_on).0; above = omega arith; below = omega arith }

pub largest_inside-requires : goal.largest_inside-requires
unfolding forecast_cells_on
largest_inside-requires c =
    let k = calendar_of c.args.skipped.now c.args.repeated.now in
    let q = (goal.at.largest_inside-requires c).In_ok-forecasts_on in
    let cells : c.forecasts_on.new.values ≡ forecast_list_by k c.args.s 24 = c.forecasts_on.ensures.buffer ∙ rw (passed q) (append-nil (forecast_list_by k c.args.s 24)) in
    (walkable _ _ (followed _ _ (codes q).1), cells)

pub returns : goal.returns
unfolding window_maximum
returns c =
    let w = check-passes _ (rw c.window_ok.ensures at c.in_ok-unless.ensures) in
    rw (window-code _ c.args.s c.args.first c.args.end, passed (goal.at.returns c).In_ok-forecasts_on, w) c.largest_inside.ensures
