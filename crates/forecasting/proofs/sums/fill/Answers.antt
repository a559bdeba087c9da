use Prim.Native.Nat.{ℕ, ◌<◌, suc}
use mathlib.Core.Path.{◌≡◌, refl, ap₂, ◌∙◌}
use mathlib.Core.List.{List, ◌++◌}
use native.Mathlib.Numerals.{add-one}
use native.Mathlib.Omega.{arith}
use lib.IntN.{ℤ, pos, ◌+ℤ◌}
use lib.ListN.{length, drop, get_or, set, length-set}
use mir.Syntax.{w64}
use mir.Val.{SFits, to_z, of_z}
use mir.ValLaws.{to_z-of_z}
use Rattle.integers.proofs.Bounds.{within-add, within-fits, within-back}
use Rattle.models.specs.Models.{ties_to_even}
use Rattle.state.specs.declared.State.{State}
use Rattle.state.specs.States.{check}
use Rattle.state.proofs.Passing.{bounded}
use Rattle.calendars.specs.Calendars.{Calendar, calendar_of}
use Rattle.ets.specs.Bounds.{Walkable}
use Rattle.forecasts.specs.Forecasts.{trend_at, trend_line}
use Rattle.forecasts.specs.Calendars.{place_by, forecast_by, forecast_list_by}
use Rattle.forecasts.proofs.ForecastLaws.{Turn, turn, trend-bound, line-bound}
use Rattle.forecasts.proofs.CalendarLaws.{Stepping, place-small, walk_start, walk_step, list-more-by}
use Rattle.forecasting.proofs.sums.fill.Goals as goal
use Rattle.forecasting.proofs.sums.fill.Goals.{After-share-d, After-walk-t}

turn_at : (c : After-share-d) → Turn (ties_to_even c.args.r.state.now.model) c.args.r.state.now.level c.args.r.state.now.phi c.args.r.state.now.trend c.loop-i.i (to_z w64 c.loop-i.line-bits) c.share-d.result
turn_at c =
    let s = c.args.r.state.now in
    let b = bounded s c.args.r.passes in
    turn (ties_to_even s.model) s.level s.phi s.trend b.phi b.level b.trend c.loop-i.i (omega (arith, c.args.r.below, c.loop-i-test.true)) (to_z w64 c.loop-i.d-bits) (to_z w64 c.loop-i.line-bits) c.share-d.result c.loop-i.invariant.0 c.loop-i.invariant.1 c.share-d.type_inv (rw c.loop-i.invariant.5 at c.share-d.ensures)

-- a turn of the loop is a step of the walk
step-at : (c : After-walk-t) → Stepping (calendar_of c.args.skipped.now c.args.repeated.now) c.args.r.state.now c.loop-i.i c.loop-i.n c.walk-t.result
step-at c =
    walk_step (calendar_of c.args.skipped.now c.args.repeated.now) c.args.r.state.now c.args.r.passes c.requires.0 c.loop-i.i c.loop-i.p c.loop-i.n c.loop-i.at c.walk-t.result c.loop-i.invariant.2 c.walk-t.ensures

-- its place is one of the array's
place_in : (c : After-walk-t) → c.walk-t.result.used < 48
place_in c = rw (step-at c).used (place-small (calendar_of c.args.skipped.now c.args.repeated.now) c.args.r.state.now c.args.r.passes c.requires.0 (suc c.loop-i.i))

-- the sum that is stored is the forecast
module _ (k : Calendar) (s : State) (ok : check s ≡ 0) (w : Walkable k s.period) (i : ℕ) (small : i < 512) (line r : ℤ) (t : Turn (ties_to_even s.model) s.level s.phi s.trend i line r) (used : ℕ) (u : used ≡ place_by k s (suc i)) where
  season-is : to_z w64 (of_z w64 (get_or s.seasonal used (pos 0))) ≡ get_or s.seasonal (place_by k s (suc i)) (pos 0)
  season-is = rw u (within-back w64 ((bounded s ok).cells _ (place-small k s ok w (suc i))) (omega arith))

  value-fits : SFits w64 (forecast_by k s (suc i))
  unfolding forecast_by
  value-fits =
      within-fits w64
      (within-add {m = 1099511627776} (line-bound _ _ _ _ (bounded s ok).phi (bounded s ok).level (bounded s ok).trend (suc i) (omega (arith, small)))
      ((bounded s ok).cells _ (place-small k s ok w (suc i))))
      (omega arith)

  value-is : to_z w64 (of_z w64 (line +ℤ to_z w64 (of_z w64 r))) +ℤ to_z w64 (of_z w64 (get_or s.seasonal used (pos 0))) ≡ forecast_by k s (suc i)
  unfolding forecast_by
  value-is = ap₂ (λ (x y : ℤ). x +ℤ y) t.line-is season-is

  sum_fits : SFits w64 (to_z w64 (of_z w64 (line +ℤ to_z w64 (of_z w64 r))) +ℤ to_z w64 (of_z w64 (get_or s.seasonal used (pos 0))))
  sum_fits = rw value-is value-fits

  stored_is : (cells values : List ℤ) → i < length cells → values ≡ forecast_list_by k s i ++ drop i cells →
      set values i (to_z w64 (of_z w64 (to_z w64 (of_z w64 (line +ℤ to_z w64 (of_z w64 r))) +ℤ to_z w64 (of_z w64 (get_or s.seasonal used (pos 0)))))) ≡ forecast_list_by k s (suc i) ++ drop (suc i) cells
  stored_is cells values h e =
      ap₂ (λ (l : List ℤ) (v : ℤ). set l i v) e (rw value-is (to_z-of_z w64 _ value-fits)) ∙ list-more-by k s i cells h

pub loop-i-init : goal.loop-i-init
unfolding trend_at trend_line forecast_list_by
loop-i-init c =
    let b = bounded c.args.r.state.now c.args.r.passes in (
      within-back w64 b.trend (omega arith),
      within-back w64 b.level (omega arith),
      walk_start (calendar_of c.args.skipped.now c.args.repeated.now) c.args.r.state.now c.args.r.passes c.requires.0 c.start-at.result c.start-at.ensures,
      refl,
      refl,
      c.ties_to_even-even.ensures,
    )

pub share-d-requires : goal.share-d-requires
share-d-requires c =
    let b = bounded c.args.r.state.now c.args.r.passes in
    (b.phi, rw c.loop-i.invariant.0 (trend-bound _ _ _ _ b.phi b.level b.trend c.loop-i.i))

pub overflow_add-line : goal.overflow_add-line
overflow_add-line c = (turn_at (goal.at.overflow_add-line c).After-share-d).fits

pub overflow_cast-k : goal.overflow_cast-k
overflow_cast-k c = let l = place_in (goal.at.overflow_cast-k c).After-walk-t in omega arith

pub offset_bounds-s-k : goal.offset_bounds-s-k
offset_bounds-s-k c = let l = place_in (goal.at.offset_bounds-s-k c).After-walk-t in omega arith

pub bounds-s-k : goal.bounds-s-k
bounds-s-k c = place_in (goal.at.bounds-s-k c).After-walk-t

pub overflow_add-values : goal.overflow_add-values
overflow_add-values c =
    sum_fits (calendar_of c.args.skipped.now c.args.repeated.now) c.args.r.state.now c.args.r.passes c.requires.0 c.loop-i.i (omega (arith, c.args.r.below, c.loop-i-test.true)) (to_z w64 c.loop-i.line-bits) c.share-d.result (turn_at (goal.at.overflow_add-values c).After-share-d) c.walk-t.result.used (step-at (goal.at.overflow_add-values c).After-walk-t).used

pub overflow_add-n : goal.overflow_add-n
overflow_add-n c = omega (arith, c.loop-i.invariant.2.count, (bounded c.args.r.state.now c.args.r.passes).count, c.args.r.below)

pub loop-i-preserved : goal.loop-i-preserved
loop-i-preserved c =
    let t = turn_at (goal.at.loop-i-preserved c).After-share-d in
    let u = step-at (goal.at.loop-i-preserved c).After-walk-t in
    let e = add-one c.loop-i.i in (
      rw e t.trend,
      rw e t.line-is,
      rw e u.next,
      simp length-set c.loop-i.invariant.3,
      rw e (stored_is (calendar_of c.args.skipped.now c.args.repeated.now) c.args.r.state.now c.args.r.passes c.requires.0 c.loop-i.i (omega (arith, c.args.r.below, c.loop-i-test.true)) (to_z w64 c.loop-i.line-bits) c.share-d.result t c.walk-t.result.used u.used c.args.values.now c.loop-i.values (omega (arith, c.requires.1, c.loop-i-test.true)) c.loop-i.invariant.4),
      c.loop-i.invariant.5,
    )

pub returns : goal.returns
returns c =
    let n : c.loop-i.i ≡ c.args.r.horizon = omega arith in
    rw n at c.loop-i.invariant.4
