-- One step more of a window: what is inside, and the largest of it.
use Prim.Native.Nat.{ℕ, suc, ◌<◌}
use mathlib.Core.Path.{◌≡◌, refl, sym, ap}
use mathlib.Core.Bool.{Bool, true, false, cond, not, ◌&&◌, ◌||◌}
use mathlib.Core.List.{List, [], ◌∷◌, ◌++◌, append-nil}
use Rattle.std.proofs.Common.{Option, Some, None, Ok, Err}
use lib.IntN.{ℤ, pos}
use lib.ListN.{get_or}
use lib.Signed.{lt_z}
use Rattle.calendars.specs.Calendars.{Calendar}
use Rattle.integers.proofs.Snoc.{snoc-at}
use Rattle.state.specs.declared.State.{State}
use Rattle.forecasts.specs.Calendars.{place_by, forecast_by, forecast_list_by}
use Rattle.forecasts.proofs.CalendarLaws.{list-length-by}
use Rattle.state.specs.Rejections.{unless, answer, bad_calendar, rejection_of}
use Rattle.state.specs.declared.Rejection.TheVariants as RejectionOf
use Rattle.clock.specs.Windows.{in_window, inside_to, is_some, larger, largest_from, largest}
use Rattle.clock.specs.Cases.{raised}

-- a cell of the forecasts
pub forecast-at : (k : Calendar) (s : State) (h i : ℕ) → i < h → get_or (forecast_list_by k s h) i (pos 0) ≡ forecast_by k s (suc i)
unfolding forecast_list_by
forecast-at k s h i l = snoc-at (forecast_list_by k s) (λ (n : ℕ). forecast_by k s (suc n)) (pos 0) (λ n. refl) (list-length-by k s) h i l

-- ---- one number more
from_more : (x v : ℤ) (zs : List ℤ) → largest_from x (zs ++ (v ∷ [])) ≡ larger (largest_from x zs) v
unfolding largest_from
from_more x v [] = refl
from_more x v (z ∷ zs) = from_more (larger x z) v zs

some_more : (taken : Bool) (v : ℤ) (zs : List ℤ) → (is_some zs || taken) ≡ is_some (zs ++ cond taken (v ∷ []) [])
some_more true v [] = refl
some_more false v [] = refl
some_more taken v (z ∷ zs) = refl

best-more : (taken : Bool) (v : ℤ) (zs : List ℤ) → cond (taken && (not (is_some zs) || lt_z (largest zs) v)) v (largest zs) ≡ largest (zs ++ cond taken (v ∷ []) [])
unfolding largest_from
best-more true v [] = refl
best-more true v (z ∷ zs) = sym (from_more z v zs)
best-more false v zs = ap largest (sym (append-nil zs))

-- the largest of a list, where it has a number
abbrev pub largest_in : List ℤ → Option ℤ
largest_in [] = None
largest_in (z ∷ zs) = Some (largest_from z zs)

largest-more : (taken : Bool) (v : ℤ) (zs : List ℤ) → raised taken (largest_in zs) v ≡ largest_in (zs ++ cond taken (v ∷ []) [])
unfolding largest_from
largest-more true v [] = refl
largest-more true v (z ∷ zs) = ap Some (sym (from_more z v zs))
largest-more false v zs = ap largest_in (sym (append-nil zs))

pub accepted_is : (zs : List ℤ) (v : ℤ) → largest_in zs ≡ Some v → answer (unless (is_some zs) bad_calendar) (largest zs) ≡ Ok v
accepted_is [] v e = cc
accepted_is (z ∷ zs) v e = cc

pub rejected_is : (zs : List ℤ) → largest_in zs ≡ None → answer (unless (is_some zs) bad_calendar) (largest zs) ≡ Err RejectionOf.BadCalendar
unfolding rejection_of
rejected_is [] e = refl
rejected_is (z ∷ zs) e = cc

-- ---- one step more
module _ (k : Calendar) (s : State) (start end i : ℕ) where
  abbrev taken : Bool
  taken = in_window start end (place_by k s (suc i))

  abbrev before : List ℤ
  before = inside_to k s start end i

  abbrev v : ℤ
  v = forecast_by k s (suc i)

  pub some_next : (is_some before || taken) ≡ is_some (inside_to k s start end (suc i))
  unfolding inside_to
  some_next = some_more taken v before

  pub best-next : cond (taken && (not (is_some before) || lt_z (largest before) v)) v (largest before) ≡ largest (inside_to k s start end (suc i))
  unfolding inside_to
  best-next = best-more taken v before

  pub largest-next : raised taken (largest_in before) v ≡ largest_in (inside_to k s start end (suc i))
  unfolding inside_to
  largest-next = largest-more taken v before
