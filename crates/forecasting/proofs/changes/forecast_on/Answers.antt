use mathlib.Core.Path.{◌≡◌, refl, ap, ap₂, ◌∙◌}
use mathlib.Core.Bool.{Bool}
use Prim.Native.Nat.{ℕ}
use native.Mathlib.Omega.{arith}
use lib.IntN.{ℤ, pos, ◌+ℤ◌}
use lib.ListN.{get_or}
use mir.Syntax.{w64}
use mir.Val.{SFits, to_z, of_z}
use mir.ValLaws.{to_z-of_z}
use Rattle.integers.specs.Bounds.{Within}
use Rattle.integers.proofs.Difference.{back}
use Rattle.integers.proofs.Bounds.{within-add, within-fits, within-back}
use Rattle.calendars.specs.Calendars.{calendar_of}
use Rattle.state.specs.Rejections.{unless, bad_calendar}
use Rattle.state.specs.Valid.{Bounded}
use Rattle.state.proofs.Answers.{check-ends, check-passes, check-rejects}
use Rattle.state.proofs.Passing.{bounded}
use Rattle.ets.specs.Calendars.{calendar_code}
use Rattle.ets.proofs.CalendarLaws.{lists-code, followed, walkable}
use Rattle.forecasts.specs.Forecasts.{trend_line, forecast_code}
use Rattle.forecasts.specs.Calendars.{forecast_by, forecast_code_on, forecast_on}
use Rattle.forecasts.proofs.ForecastLaws.{Ready, forecast-ready}
use Rattle.forecasting.proofs.changes.forecast_on.Goals as goal
use Rattle.forecasting.proofs.changes.forecast_on.Goals.{In_ok-check_forecast, After-calendar_ok, In_ok-unless, After-trend_line}

-- a horizon from a state that passes; the lists decide
accepted : (c : In_ok-check_forecast) → forecast_code c.args.s c.args.h ≡ 0
accepted c = check-passes _ c.in_ok-check_forecast.ensures

ready : (c : In_ok-check_forecast) → Ready 512 c.args.s c.args.h
ready c = forecast-ready 512 c.args.s c.args.h (accepted c)

lists : (c : After-calendar_ok) → calendar_code c.args.s.period (calendar_of c.args.skipped.now c.args.repeated.now) ≡ unless c.calendar_ok.result bad_calendar
lists c = lists-code c.args.s.period (calendar_of c.args.skipped.now c.args.repeated.now) c.calendar_ok.result c.calendar_ok.result c.calendar_ok.ensures refl

lists_ok : (c : In_ok-unless) → calendar_code c.args.s.period (calendar_of c.args.skipped.now c.args.repeated.now) ≡ 0
lists_ok c =
    lists-code c.args.s.period (calendar_of c.args.skipped.now c.args.repeated.now) c.calendar_ok.result c.calendar_ok.result c.calendar_ok.ensures refl ∙ check-passes _ c.in_ok-unless.ensures

state-facts : (c : In_ok-check_forecast) → Bounded c.args.s
state-facts c = bounded c.args.s (ready c).valid

level_is : (c : In_ok-check_forecast) → to_z w64 (of_z w64 c.args.s.level) ≡ c.args.s.level
level_is c = within-back w64 (state-facts c).level (omega arith)

trend_is : (c : In_ok-check_forecast) → to_z w64 (of_z w64 c.args.s.trend) ≡ c.args.s.trend
trend_is c = within-back w64 (state-facts c).trend (omega arith)

same_line : (x x' : Bool) (l l' b b' : ℤ) (F h : ℕ) → x ≡ x' → l ≡ l' → b ≡ b' → trend_line x l F b h ≡ trend_line x' l' F b' h
same_line x x' l l' b b' F h ex el eb = rw (ex, el, eb)

season_small : (c : After-trend_line) → Within 1099511627776 (get_or c.args.s.seasonal c.place_at-k.result (pos 0))
season_small c = (bounded c.args.s (forecast-ready 512 _ _ (check-passes _ c.in_ok-check_forecast.ensures)).valid).cells _ c.place_at-k.ensures.bound

season-is : (c : After-trend_line) → to_z w64 (of_z w64 (get_or c.args.s.seasonal c.place_at-k.result (pos 0))) ≡ get_or c.args.s.seasonal c.place_at-k.result (pos 0)
season-is c = within-back w64 (season_small c) (omega arith)

sum_fits : (c : After-trend_line) → SFits w64 (c.trend_line.result +ℤ get_or c.args.s.seasonal c.place_at-k.result (pos 0))
sum_fits c = within-fits w64 (within-add c.trend_line.ensures.bound (season_small c)) (omega arith)

pub returns-in_err-check_forecast : goal.returns-in_err-check_forecast
unfolding forecast_on forecast_code_on
returns-in_err-check_forecast c =
    check-ends _ _ _ c.in_err-check_forecast.ensures c.from_residual.ensures.1

pub returns-in_err-unless : goal.returns-in_err-unless
unfolding forecast_on forecast_code_on
returns-in_err-unless c =
    let at = goal.at.returns-in_err-unless c in
    rw (accepted at.In_ok-check_forecast, lists at.After-calendar_ok) (check-rejects _ _ c.in_err-unless.ensures c.from_residual-in_err-unless.ensures.1)

pub invariant_of-r : goal.invariant_of-r
invariant_of-r c =
    let q = ready (goal.at.invariant_of-r c).In_ok-check_forecast in
    record { passes = q.valid; above = q.least; below = q.most }

pub place_at-k-requires : goal.place_at-k-requires
place_at-k-requires c = walkable _ _ (followed _ _ (lists_ok (goal.at.place_at-k-requires c).In_ok-unless))

pub trend_line-requires : goal.trend_line-requires
trend_line-requires c =
    let q = (goal.at.trend_line-requires c).In_ok-check_forecast in
    let b = state-facts q in
    rw (level_is q, trend_is q) (b.phi, b.level, b.trend, (ready q).most)

pub overflow_add-result : goal.overflow_add-result
overflow_add-result c =
    let t = (goal.at.overflow_add-result c).After-trend_line in
    rw (back w64 c.trend_line.result c.trend_line.type_inv, season-is t) (sum_fits t)

pub returns : goal.returns
unfolding forecast_on forecast_code_on forecast_by
returns c =
    let q = (goal.at.returns c).In_ok-check_forecast in
    let t = (goal.at.returns c).After-trend_line in
    let v : c.trend_line.result +ℤ get_or c.args.s.seasonal c.place_at-k.result (pos 0) ≡ forecast_by (calendar_of c.args.skipped.now c.args.repeated.now) c.args.s c.args.h =
    ap₂ (λ (x y : ℤ). x +ℤ y) (c.trend_line.ensures.value ∙ same_line _ _ _ _ _ _ _ _ c.ties_to_even.ensures (level_is q) (trend_is q))
    (ap (λ (p : ℕ). get_or c.args.s.seasonal p (pos 0)) c.place_at-k.ensures.value) in
    rw (accepted q, lists_ok (goal.at.returns c).In_ok-unless, back w64 c.trend_line.result c.trend_line.type_inv, season-is t, to_z-of_z w64 _ (sum_fits t), v)
