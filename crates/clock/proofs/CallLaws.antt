-- The calls with two empty lists, and the forecasts after a missing reading.
use Prim.Native.Nat.{ℕ, zero, suc, ◌+◌, ◌≤◌, ◌<◌}
use mathlib.Core.Path.{◌≡◌, refl, sym, ap, ap₂}
use mathlib.Core.Bool.{Bool, true, false, cond}
use mathlib.Core.List.{List, ◌++◌}
use native.Mathlib.Numerals.{add-one}
use native.Mathlib.Omega.{arith}
use lib.Dec.{eqb}
use lib.IntN.{ℤ, pos, ◌+ℤ◌}
use lib.ListN.{length, get_or, drop}
use borrow.Author.Tests.{eqb-true, le-leb}
use Rattle.calendars.specs.Calendars.{Calendar, no_changes, rising, disjoint}
use Rattle.state.specs.Rejections.{◌then◌, accepting, answer, rejects}
use Rattle.models.specs.Models.{ties_to_even}
use Rattle.state.specs.States.{check}
use Rattle.state.specs.declared.State.{State}
use Rattle.state.proofs.Passing.{valid}
use Rattle.state.proofs.Tests.{then-zero}
use Rattle.calendars.specs.Turns.{turn_from}
use Rattle.ets.specs.Steps.{damped_trend, advanced, after_missing_by, step_code_by, step_code, missing_code, step, missing}
use Rattle.ets.specs.Batches.{batch_code, batch_run, batch, batch_levels}
use Rattle.ets.specs.Calendars.{calendar_code, step_code_on, missing_code_on, step_on, missing_on, batch_code_on, batch_run_on, batch_on, batch_levels_on}
use Rattle.ets.proofs.UpdateLaws.{damped-is}
use Rattle.ets.proofs.CalendarLaws.{missing-on-facts, walkable, missing-kept-by}
use Rattle.ets.proofs.StepLaws.{missing-facts}
use Rattle.forecasts.specs.Forecasts.{trend_line, max_horizon, forecast_code_to, forecast_code, forecast_to, forecast, forecasts_code_to, forecasts_code, forecasts_to, forecast_cells_to, forecast_cells}
use Rattle.forecasts.specs.Calendars.{index_from, place_from, forecast_by, forecast_code_on, forecast_on, forecasts_code_on, forecasts_on, forecast_cells_on}
use Rattle.forecasts.proofs.ForecastLaws.{forecast-ready}
use Rattle.forecasts.proofs.MissingLaws.{line_on}
use Rattle.forecasts.proofs.CalendarLaws.{forecast-unchanged, list-unchanged}
use Rattle.clock.specs.Promises.{EmptyLists, MissingForecasts}
use Rattle.std.specs.Prelude.{Ok}

-- a check that rejects nothing, after others
last-zero : (n m : ℕ) → m ≡ 0 → (n then m) ≡ n
last-zero n m e = rw e (go (eqb n 0) refl)
  where
    go : (b : Bool) → eqb n 0 ≡ b → cond b 0 n ≡ n
    go true f = sym (eqb-true n 0 f)
    go false f = refl

-- an accepted call with the one number or the other
choose : {A : Type 0} (n : ℕ) (a b : A) (r : ℕ → A) → (n ≡ 0 → a ≡ b) → accepting n a r ≡ accepting n b r
choose n a b r h = go (eqb n 0) refl
  where
    go : (t : Bool) → eqb n 0 ≡ t → cond t a (r n) ≡ cond t b (r n)
    go true e = h (eqb-true n 0 e)
    go false e = refl

module _ (s : State) (day : s.period ≡ 24) where
  followed : calendar_code s.period no_changes ≡ 0
  unfolding calendar_code rising disjoint
  followed = rw day

  step-code : (y : ℤ) → step_code_on no_changes s y ≡ step_code s y
  unfolding step_code_on step_code_by
  step-code y = rw followed

  missing-code : missing_code_on no_changes s ≡ missing_code s
  unfolding missing_code_on missing_code
  missing-code = rw followed

  run_is : (ys : List ℤ) (room : ℕ) → batch_run_on no_changes s ys room ≡ batch_run s ys room
  unfolding batch_run_on batch_run batch_code_on
  run_is ys room = rw (last-zero (batch_code s (length ys) room) (calendar_code s.period no_changes) followed)

  forecast-code : (h : ℕ) → forecast_code_on no_changes s h ≡ forecast_code s h
  unfolding forecast_code_on
  forecast-code h = last-zero (forecast_code s h) (calendar_code s.period no_changes) followed

  forecasts-code : (h room : ℕ) → forecasts_code_on no_changes s h room ≡ forecasts_code s h room
  unfolding forecasts_code_on
  forecasts-code h room = last-zero (forecasts_code s h room) (calendar_code s.period no_changes) followed

  one : (h : ℕ) → forecast_on no_changes s h ≡ forecast s h
  unfolding forecast_on forecast_to
  one h =
      rw (forecast-code h)
      (choose (forecast_code s h) _ _ rejects (λ z. let r = forecast-ready max_horizon s h z in ap Ok (forecast-unchanged s (valid s r.valid) h r.least)))

  cells : (h : ℕ) (held : List ℤ) → forecast_cells_on no_changes s h held ≡ forecast_cells s h held
  unfolding forecast_cells_on forecast_cells_to forecasts_code_to
  cells h held =
      rw (forecasts-code h (length held))
      (choose (forecasts_code s h (length held)) _ _ (λ _. held) (λ z. let r = forecast-ready max_horizon s h (then-zero _ _ z).0 in ap (λ (zs : List ℤ). zs ++ drop h held) (list-unchanged s (valid s r.valid) h)))

pub empty-lists : EmptyLists
unfolding step_on step missing_on missing batch_on batch batch_levels_on batch_levels forecasts_on forecasts_to
empty-lists s day =
    record {
      reading = λ y. rw (step-code s day y);
      gap = rw (missing-code s day);
      series = λ ys room. rw (run_is s day ys room);
      levels = λ ys held. rw (run_is s day ys (length held));
      one = one s day;
      all = λ h room. rw (forecasts-code s day h room);
      cells = cells s day;
    }

-- ---- after a missing reading: the walk of one step on
index_on : (k : Calendar) (m p n j : ℕ) → index_from k m (turn_from k m p n).next (n + 1) j ≡ index_from k m p n (suc j)
unfolding index_from
index_on k m p n zero = let e : n ≡ n + 0 = omega arith in ap (λ (c : ℕ). (turn_from k m p c).next) e
index_on k m p n (suc j) =
    let e : n + 1 + j ≡ n + suc j = omega arith in
    ap₂ (λ (q c : ℕ). (turn_from k m q c).next) (index_on k m p n j) e

place-on : (k : Calendar) (m p n j : ℕ) → place_from k m (turn_from k m p n).next (n + 1) (suc j) ≡ place_from k m p n (suc (suc j))
place-on k m p n j =
    let e : n + 1 + j ≡ n + suc j = omega arith in
    ap₂ (λ (q c : ℕ). (turn_from k m q c).used) (index_on k m p n j) e

module _ (k : Calendar) (s : State) (z : missing_code_on k s ≡ 0) where
  ok : check s ≡ 0
  ok = (missing-facts s (missing-on-facts k s z).plain).valid

  accepted : (missing_on k s).state ≡ after_missing_by k s
  unfolding missing_on
  accepted = rw z

  next-ok : check (missing_on k s).state ≡ 0
  next-ok =
      let f = missing-on-facts k s z in
      rw accepted (missing-kept-by k s (walkable s.period k f.calendar) ok f.plain)

  line-is : (h : ℕ) → trend_line (ties_to_even s.model) (s.level +ℤ damped_trend s) s.phi (damped_trend s) h ≡ trend_line (ties_to_even s.model) s.level s.phi s.trend (suc h)
  line-is h = rw (damped-is s (valid s ok)) (line_on (ties_to_even s.model) s.level s.phi s.trend h)

  forecast-on : (i : ℕ) → forecast_by k (after_missing_by k s) (suc i) ≡ forecast_by k s (suc (suc i))
  unfolding forecast_by advanced
  forecast-on i =
      ap₂ (λ (x y : ℤ). x +ℤ y) (line-is (suc i))
      (ap (λ (p : ℕ). get_or s.seasonal p (pos 0)) (place-on k s.period s.index s.count i))

  value : (h : ℕ) → 1 ≤ h → forecast_by k (missing_on k s).state h ≡ forecast_by k s (h + 1)
  value zero l = absurd (omega arith)
  value (suc i) l = rw (accepted, add-one (suc i)) (forecast-on i)

  answers : (h : ℕ) → 1 ≤ h → h < max_horizon → forecast_on k (missing_on k s).state h ≡ forecast_on k s (h + 1)
  unfolding forecast_on forecast_code_on forecast_code_to
  answers h l u =
      let v = value h l in
      let a : 1 ≤ h + 1 = omega arith in
      let b : h + 1 ≤ 512 = omega arith in
      let c : h ≤ 512 = omega arith in
      let same : (missing_on k s).state.period ≡ s.period = ap (λ (t : State). t.period) accepted in
      rw (← v, next-ok, ok, le-leb 1 h l, le-leb h 512 c, le-leb 1 (h + 1) a, le-leb (h + 1) 512 b, same)

pub missing-forecasts : MissingForecasts
missing-forecasts k s z h l = record { value = value k s z h l; answer = answers k s z h l }
