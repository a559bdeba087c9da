-- A step by a calendar of clock changes, of a state and of the exact recursion: where place 2 is skipped, the step without lists from place 3; where it is repeated, the
-- step without lists, after which p goes back to 2; else that step.
use mathlib.Core.Path.{◌≡◌, refl, sym, ap}
use mathlib.Core.Bool.{Bool, true, false, cond}
use Prim.Native.Nat.{ℕ, suc, ◌<◌}
use native.Mathlib.Omega.{arith}
use lib.Dec.{eqb}
use lib.IntN.{ℤ}
use borrow.Author.Tests.{eqb-true, ltb-true}
use Rattle.calendars.specs.Calendars.{Calendar, no_changes, is_in}
use Rattle.integers.proofs.Tests.{both}
use Rattle.models.specs.Models.{has_season}
use Rattle.state.specs.States.{index_ok, check}
use Rattle.state.specs.declared.State.{State}
use Rattle.state.proofs.Passing.{no_season}
use Rattle.ets.specs.Bounds.{Walkable}
use Rattle.calendars.specs.Turns.{next_index}
use Rattle.ets.specs.Steps.{damped_trend, season_by, seasonal_by, advanced, step_code_by, missing_code, after_reading_by, after_missing_by}
use Rattle.ets.proofs.CalendarLaws.{Followed, walkable, skips, repeats, placed, turned, step_same, missing-same}
use Rattle.forecasts.specs.Calendars.{place_by}
use Rattle.forecasts.proofs.CalendarLaws.{place_ok}
use Rattle.drift.specs.Exact.{Parameters, Exact, exact_damped, exact_residual_by, exact_season_by, exact_reading_by, exact_missing_by}

-- the exact recursion at another place, where a list took effect
abbrev pub shifted : Exact → ℕ → Exact
shifted x p =
    record { L = x.L; T = x.T; S = x.S; p = p; n = x.n; count = x.count; missed = x.missed; changed = suc x.changed }

-- ---- a reading, or a missing one, which is a gap
abbrev pub code_of : Bool → Calendar → State → ℤ → ℕ
code_of gap k s y = cond gap (missing_code s) (step_code_by k s y)

abbrev pub stepped : Bool → Calendar → State → ℤ → State
stepped gap k s y = cond gap (after_missing_by k s) (after_reading_by k s y)

abbrev pub exact_stepped : Bool → Calendar → Parameters → Exact → ℤ → Exact
exact_stepped gap k c x y = cond gap (exact_missing_by k c x) (exact_reading_by k c x y)

-- where place 2 is repeated it is due
due : (k : Calendar) (p n : ℕ) → repeats k p n ≡ true → p ≡ 2
due k p n h = eqb-true p 2 (both (is_in n k.repeated) (eqb p 2) h).1

-- ---- a state
module _ (k : Calendar) (s : State) (y : ℤ) where
  pub code-turned : Walkable k s.period → check s ≡ 0 → (gap : Bool) → code_of gap k s y ≡ code_of gap no_changes (turned k s) y
  code-turned w ok true = missing-same k s w ok
  code-turned w ok false = step_same k s w ok y

  module _ (e : skips k s.index s.count ≡ true) where
    pub skips-from : turned k s ≡ placed s 3
    skips-from = rw e

    pub skips-to : s.period ≡ 24 → (gap : Bool) → stepped gap k s y ≡ stepped gap no_changes (placed s 3) y
    unfolding damped_trend advanced season_by seasonal_by next_index
    skips-to m true = rw (e, m)
    skips-to m false = rw (e, m)

  module _ (e : skips k s.index s.count ≡ false) (f : repeats k s.index s.count ≡ true) where
    pub repeats-from : turned k s ≡ s
    repeats-from = rw (e, f) (ap (placed s) (sym (due k s.index s.count f)))

    pub repeats-to : (gap : Bool) → stepped gap k s y ≡ placed (stepped gap no_changes s y) 2
    unfolding damped_trend advanced season_by seasonal_by
    repeats-to true = rw (e, f)
    repeats-to false = rw (e, f, due k s.index s.count f)

  module _ (e : skips k s.index s.count ≡ false) (f : repeats k s.index s.count ≡ false) where
    pub goes-from : turned k s ≡ s
    goes-from = rw (e, f)

    pub goes_to : (gap : Bool) → stepped gap k s y ≡ stepped gap no_changes s y
    unfolding damped_trend advanced season_by seasonal_by
    goes_to true = rw (e, f)
    goes_to false = rw (e, f)

-- ---- the exact recursion
module _ (k : Calendar) (c : Parameters) (x : Exact) (y : ℤ) where
  pub exact-skips : skips k x.p x.count ≡ true → c.period ≡ 24 → (gap : Bool) → exact_stepped gap k c x y ≡ exact_stepped gap no_changes c (shifted x 3) y
  unfolding exact_damped exact_residual_by exact_season_by next_index
  exact-skips e m true = rw (e, m)
  exact-skips e m false = rw (e, m)

  pub exact-repeats : skips k x.p x.count ≡ false → repeats k x.p x.count ≡ true → (gap : Bool) → exact_stepped gap k c x y ≡ shifted (exact_stepped gap no_changes c x y) 2
  unfolding exact_damped exact_residual_by exact_season_by
  exact-repeats e f true = rw (e, f)
  exact-repeats e f false = rw (e, f, due k x.p x.count f)

  pub exact-goes : skips k x.p x.count ≡ false → repeats k x.p x.count ≡ false → (gap : Bool) → exact_stepped gap k c x y ≡ exact_stepped gap no_changes c x y
  unfolding exact_damped exact_residual_by exact_season_by
  exact-goes e f true = rw (e, f)
  exact-goes e f false = rw (e, f)

-- ---- a season of 24 places is one
pub day-seasonal : (s : State) → check s ≡ 0 → s.period ≡ 24 → has_season s.model ≡ true
day-seasonal s ok m = go (has_season s.model) refl
  where
    go : (b : Bool) → has_season s.model ≡ b → b ≡ true
    go true e = refl
    go false e = absurd (omega (arith, (no_season s ok e).period))

-- a forecast's walk goes from place to place of the day
in-day : (m p : ℕ) → m ≡ 24 → index_ok m p ≡ true → p < m
in-day m p e h = rw e (ltb-true p 24 (rw e at h))

pub place_in : (k : Calendar) (s : State) → Followed s.period k → check s ≡ 0 → (h : ℕ) → place_by k s h < s.period
place_in k s f ok h = in-day s.period (place_by k s h) f.day (place_ok k s ok (walkable s.period k f) h)
