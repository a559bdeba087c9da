-- What a call works as, on a state that passes its checks: as a reading, a missing one, a switch, a batch, or a forecast for one horizon or for all.
use Prim.Native.Nat.{ℕ}
use mathlib.Core.Path.{◌≡◌, refl}
use mathlib.Core.Bool.{Bool, true, false, cond}
use mathlib.Core.List.{List, [], ◌∷◌}
use lib.Dec.{eqb}
use lib.IntN.{ℤ}
use lib.ListN.{length}
use borrow.Author.Tests.{eqb-true}
use Rattle.calendars.specs.Calendars.{Calendar, no_changes}
use Rattle.state.specs.Rejections.{accepting}
use Rattle.state.specs.Fixed.{is_sentinel}
use Rattle.state.specs.Switching.{switched}
use Rattle.state.specs.declared.State.{State}
use Rattle.ets.specs.Bounds.{Walkable}
use Rattle.ets.specs.Steps.{step_code_by, missing_code, after_reading_by, after_missing_by}
use Rattle.ets.specs.Batches.{Run, run_by, halted, after_take_by}
use Rattle.ets.proofs.CalendarLaws.{Followed, walkable, unchanged}
use Rattle.forecasts.specs.Forecasts.{forecast_of, forecast_list}
use Rattle.forecasts.specs.Calendars.{forecast_by, forecast_list_by}
use Rattle.traces.specs.Calls.{observed, unobserved, untold, series, horizon, horizons, horizon_on, horizons_on, Result, answered}
use Rattle.traces.specs.Scores.{square_if, squares_if}

-- n is a call's rejection, or 0
pub by_code {ℓ} : (P : Bool → Type ℓ) (n : ℕ) → (n ≡ 0 → P true) → P false → P (eqb n 0)
by_code P n f g = go (eqb n 0) refl
  where
    go : (b : Bool) → eqb n 0 ≡ b → P b
    go true e = f (eqb-true n 0 e)
    go false e = g

-- the lists of an accepted step: two empty ones over any season, or lists that 20 let pass
pub data Fitting (m : ℕ) : Calendar → Type 0 where
  unlisted : Fitting m no_changes
  listed : {k : Calendar} → Followed m k → Fitting m k

pub fitting : (m : ℕ) {k : Calendar} → Fitting m k → Walkable k m
fitting m unlisted = unchanged m
fitting m {k} (listed f) = walkable m k f

-- no reading changes m
pub take-period : (k : Calendar) (s : State) (y : ℤ) → (after_take_by k s y).period ≡ s.period
unfolding after_take_by
take-period k s y = go (is_sentinel y)
  where
    go : (b : Bool) → (cond b (after_missing_by k s) (after_reading_by k s y)).period ≡ s.period
    go true = refl
    go false = refl

-- a batch with the rejection n before its first reading
abbrev pub run_if : ℕ → Calendar → State → List ℤ → Run
run_if n k s ys = accepting n (run_by k s ys) (halted s)

-- with the squares that it adds to the score
pub data Works (s : State) : List ℕ → Result → Type 0 where
  reads : (k : Calendar) (y : ℤ) (n : ℕ) → (n ≡ 0 → Fitting s.period k × (step_code_by k s y ≡ 0)) → Works s (square_if n k s y) (answered (cond (eqb n 0) (after_reading_by k s y) s) (observed k y) n [])
  misses : (k : Calendar) (n : ℕ) → (n ≡ 0 → Fitting s.period k × (missing_code s ≡ 0)) → Works s [] (answered (cond (eqb n 0) (after_missing_by k s) s) (unobserved k) n [])
  switches : (n : ℕ) → Works s [] (record { state = cond (eqb n 0) (switched s) s; event = untold; numbers = [] })
  takes : (k : Calendar) (ys : List ℤ) (n : ℕ) → (n ≡ 0 → Fitting s.period k) → Works s (squares_if n k s ys) (record { state = (run_if n k s ys).state; event = series k ys (length (run_if n k s ys).levels); numbers = (run_if n k s ys).levels })
  forecasts-one : (h n : ℕ) (v : ℤ) → (n ≡ 0 → v ≡ forecast_of s h) → Works s [] (answered s (horizon h) n (v ∷ []))
  forecasts-all : (h n : ℕ) (zs : List ℤ) → (n ≡ 0 → zs ≡ forecast_list s h) → Works s [] (answered s (horizons h) n zs)
  walks-one : (k : Calendar) (h n : ℕ) (v : ℤ) → (n ≡ 0 → Followed s.period k × (v ≡ forecast_by k s h)) → Works s [] (answered s (horizon_on k h) n (v ∷ []))
  walks-all : (k : Calendar) (h n : ℕ) (zs : List ℤ) → (n ≡ 0 → Followed s.period k × (zs ≡ forecast_list_by k s h)) → Works s [] (answered s (horizons_on k h) n zs)
