-- A forecast by a calendar: without clock changes it is that of document 01, and a state that takes a missing reading has the forecasts of one step on.
use Prim.Native.Nat.{ℕ, zero, suc, ◌+◌, ◌≤◌, ◌<◌}
use mathlib.Core.Path.{◌≡◌, refl, sym, ap, ap₂, ◌∙◌}
use mathlib.Core.Bool.{Bool, true, false, cond}
use mathlib.Core.List.{List, [], ◌∷◌, ◌++◌}
use native.Mathlib.Omega.{arith}
use lib.Dec.{eqb, ltb}
use lib.IntN.{ℤ, pos, ◌+ℤ◌}
use lib.ListN.{get_or, length, set, drop, length-append}
use borrow.Author.Tests.{eqb-true, ltb-true}
use Rattle.calendars.specs.Calendars.{Calendar, no_changes}
use Rattle.calendars.proofs.ListLaws.{behind-start}
use Rattle.integers.proofs.Snoc.{snoc-more}
use Rattle.models.specs.Models.{ties_to_even}
use Rattle.state.specs.States.{index_ok, check}
use Rattle.state.specs.Valid.{Valid}
use Rattle.state.specs.declared.State.{State}
use Rattle.state.proofs.Passing.{passed, bounded}
use Rattle.calendars.specs.Turns.{next_index, turn_from}
use Rattle.ets.specs.Bounds.{Walkable}
use Rattle.calendars.specs.Walks.{walked, BothBehind}
use Rattle.calendars.specs.declared.Cursors.{Cursors}
use Rattle.calendars.specs.declared.Walked.{Walked}
use Rattle.calendars.proofs.WalkLaws.{walked-is}
use Rattle.forecasts.specs.Forecasts.{trend_line, forecast_of, forecast_list}
use Rattle.forecasts.specs.Calendars.{index_from, place_by, forecast_by, forecast_list_by}
use Rattle.forecasts.proofs.ForecastLaws.{ahead, season-ahead}

-- ---- without clock changes
ahead-is : (m p n i : ℕ) → index_from no_changes m p n i ≡ ahead m p i
unfolding index_from ahead
ahead-is m p n zero = refl
ahead-is m p n (suc i) = ap (next_index m) (ahead-is m p n i)

pub forecast-unchanged : (s : State) → Valid s → (h : ℕ) → 1 ≤ h → forecast_by no_changes s h ≡ forecast_of s h
unfolding forecast_by forecast_of
forecast-unchanged s v zero l = absurd (omega arith)
forecast-unchanged s v (suc i) l =
    ap (λ (z : ℤ). trend_line (ties_to_even s.model) s.level s.phi s.trend (suc i) +ℤ z)
    (ap (λ (q : ℕ). get_or s.seasonal q (pos 0)) (ahead-is s.period s.index s.count i) ∙ sym (season-ahead s v i))

pub list-unchanged : (s : State) → Valid s → (h : ℕ) → forecast_list_by no_changes s h ≡ forecast_list s h
unfolding forecast_list_by forecast_list
list-unchanged s v zero = refl
list-unchanged s v (suc h) =
    ap₂ (λ (xs : List ℤ) (z : ℤ). xs ++ (z ∷ [])) (list-unchanged s v h) (forecast-unchanged s v (suc h) (omega arith))

-- ---- the list of forecasts
pub list-length-by : (k : Calendar) (s : State) (h : ℕ) → length (forecast_list_by k s h) ≡ h
unfolding forecast_list_by
list-length-by k s zero = refl
list-length-by k s (suc h) = rw (length-append, list-length-by k s h) (omega arith)

-- one more forecast stored
pub list-more-by : (k : Calendar) (s : State) (i : ℕ) (cells : List ℤ) → i < length cells →
    set (forecast_list_by k s i ++ drop i cells) i (forecast_by k s (suc i)) ≡ forecast_list_by k s (suc i) ++ drop (suc i) cells
unfolding forecast_list_by
list-more-by k s i cells h = snoc-more (forecast_list_by k s) (λ (n : ℕ). forecast_by k s (suc n)) (pos 0) (λ n. refl) (list-length-by k s) i cells h

-- ---- the places of a walk are the season's
small : (m p : ℕ) → m ≤ 48 → index_ok m p ≡ true → p < 48
small m p h e = go (eqb m 0) refl e
  where
    go : (b : Bool) → eqb m 0 ≡ b → cond b (eqb p 0) (ltb p m) ≡ true → p < 48
    go true f q = omega (arith, eqb-true p 0 q)
    go false f q = omega (arith, ltb-true p m q)

-- ---- the walk of the code: after i steps the place p is due, the count is n, and the cursors have passed what is below it
pub record Walking (k : Calendar) (s : State) (i p n : ℕ) (at : Cursors) : Type 0 where
  pub index : p ≡ index_from k s.period s.index s.count i
  pub count : n ≡ s.count + i
  pub behind : BothBehind k at n

pub record Stepping (k : Calendar) (s : State) (i n : ℕ) (t : Walked) : Type 0 where
  pub used : t.used ≡ place_by k s (suc i)
  pub next : Walking k s (suc i) t.next (n + 1) t.at

module _ (k : Calendar) (s : State) (ok : check s ≡ 0) (w : Walkable k s.period) where
  index_in : (j : ℕ) → index_ok s.period (index_from k s.period s.index s.count j) ≡ true
  unfolding index_from
  index_in zero = (passed s ok).index
  index_in (suc j) = w.next (index_from k s.period s.index s.count j) (s.count + j) (index_in j)

  pub place_ok : (h : ℕ) → index_ok s.period (place_by k s h) ≡ true
  place_ok zero = (passed s ok).index
  place_ok (suc j) = w.used (index_from k s.period s.index s.count j) (s.count + j) (index_in j)

  pub place-small : (h : ℕ) → place_by k s h < 48
  place-small h = small s.period (place_by k s h) (bounded s ok).period (place_ok h)

  pub walk_start : (at : Cursors) → at ≡ record { skipped = 0; repeated = 0 } → Walking k s 0 s.index s.count at
  unfolding index_from
  walk_start at e =
      record { index = refl; count = omega arith; behind = rw e (behind-start k.skipped s.count, behind-start k.repeated s.count) }

  pub walk_step : (i p n : ℕ) (at : Cursors) (t : Walked) → Walking k s i p n at → t ≡ walked k at s.period p n → Stepping k s i n t
  unfolding index_from
  walk_step i p n at t v e =
      let r = walked-is k at s.period p n w.skipped w.repeated v.behind in
      record {
        used = ap (λ (x : Walked). x.used) e ∙ r.used ∙ ap₂ (λ (p n : ℕ). (turn_from k s.period p n).used) v.index v.count;
        next = record { index = ap (λ (x : Walked). x.next) e ∙ r.next ∙ ap₂ (λ (p n : ℕ). (turn_from k s.period p n).next) v.index v.count; count = omega (arith, v.count); behind = rw e r.behind };
      }
