-- Document 01, "One step": the exact recursion of demand 3, which is the step and the forecast with the fraction v/65536 wherever R(v) stands, of every model.
-- A missing reading of a model with trend is that of document 02, W-202. It gets the lists of clock changes that the calls bring (W-208), of which the calls of
-- document 01 have two empty ones. A fraction is a whole number over a power of 65536.
use Rattle.std.specs.Prelude.{ℕ, zero, suc, ◌+◌, ◌*◌, ◌-◌, ◌%◌, ◌^◌, Bool, cond, ◌&&◌, ◌||◌, List, [], ◌∷◌, ◌++◌, eqb, ℤ, pos, ◌+ℤ◌, ◌-ℤ◌, ◌*ℤ◌, get_or, take}
use Rattle.calendars.specs.Calendars.{Calendar, no_changes, is_in}
use Rattle.state.specs.Fixed.{is_sentinel}
use Rattle.models.specs.Models.{has_trend, has_season}
use Rattle.state.specs.declared.State.{State}
use Rattle.calendars.specs.Turns.{Turn, turn_from}
use Rattle.forecasts.specs.Calendars.{place_from}
use Rattle.traces.specs.Calls.{Event, observed, unobserved, untold, series, horizon, horizons, horizon_on, horizons_on}
use Rattle.traces.specs.Operations.{Notice, called, storing, restored, opening}

-- the trend and the season of the model and its parameters, which no call changes: the rounding rule is none of them
pub record Parameters : Type 0 where
  pub trended : Bool
  pub seasonal : Bool
  pub period : ℕ
  pub alpha : ℕ
  pub beta : ℕ
  pub gamma : ℕ
  pub phi : ℕ

abbrev pub parameters_of : State → Parameters
parameters_of s =
    record {
      trended = has_trend s.model;
      seasonal = has_season s.model;
      period = s.period;
      alpha = s.alpha;
      beta = s.beta;
      gamma = s.gamma;
      phi = s.phi;
    }

-- L, the trend T, a value S for each place, p and n; the count of steps; and how many missing readings were accepted, and on how many accepted steps a list took effect
pub record Exact : Type 0 where
  pub L : ℤ
  pub T : ℤ
  pub S : ℕ → ℤ
  pub p : ℕ
  pub n : ℕ
  pub count : ℕ
  pub missed : ℕ
  pub changed : ℕ

-- L, T and each S are over this power of 65536: a reading multiplies by φ and then by a gain, a missing reading of a model with trend by φ
abbrev pub exponent : Parameters → Exact → ℕ
exponent c x = 2 * x.n + cond c.trended x.missed 0

-- L, T, S, p and the count start as in the opening state, n at 0; without season S is 0
abbrev pub exact_of : State → Exact
exact_of s =
    record {
      L = s.level;
      T = s.trend;
      S = λ k. cond (has_season s.model) (get_or s.seasonal k (pos 0)) (pos 0);
      p = s.index;
      n = 0;
      count = s.count;
      missed = 0;
      changed = 0;
    }

-- ---- a step by a calendar. The place that it uses and where p goes, as in the step
abbrev pub exact_turn : Calendar → Parameters → Exact → Turn
exact_turn k c x = turn_from k c.period x.p x.count

-- a list takes effect on a step: its count is listed, and place 2 is due
abbrev pub takes_effect : Calendar → Exact → Bool
takes_effect k x = is_in x.count k.skipped && eqb x.p 2 || is_in x.count k.repeated && eqb x.p 2

-- the steps on which one did
abbrev pub changed_by : Calendar → Exact → ℕ
changed_by k x = cond (takes_effect k x) (suc x.changed) x.changed

-- ---- a reading. d = φ × T, or 0 without trend: over the next power
unfoldable pub exact_damped : Parameters → Exact → ℤ
exact_damped c x = cond c.trended (pos c.phi *ℤ x.T) (pos 0)

-- E = 65536 × y − (L + d + S), over the next power
unfoldable pub exact_residual_by : Calendar → Parameters → Exact → ℤ → ℤ
exact_residual_by k c x y =
    pos (65536 ^ suc (exponent c x)) *ℤ (pos 65536 *ℤ y)
    -ℤ (pos 65536 *ℤ x.L +ℤ exact_damped c x +ℤ pos 65536 *ℤ x.S (exact_turn k c x).used)

-- z + gain × E, over the power after that
unfoldable pub adjusted : ℕ → ℤ → ℤ → ℤ
adjusted gain z e = pos 65536 *ℤ z +ℤ pos gain *ℤ e

-- with a season, S at the place used becomes S + γ × E, and the others are brought to the same power; without season S is 0 throughout
unfoldable pub exact_season_by : Calendar → Parameters → Exact → ℤ → ℕ → ℤ
exact_season_by k c x e i =
    cond c.seasonal (adjusted (cond (eqb i (exact_turn k c x).used) c.gamma 0) (pos 65536 *ℤ x.S i) e) (pos 0)

-- reading y accepted: L becomes L + d + α × E, T becomes d + β × E, p moves as in the step, n and the count rise by one
abbrev pub exact_reading_by : Calendar → Parameters → Exact → ℤ → Exact
exact_reading_by k c x y =
    record {
      L = adjusted c.alpha (pos 65536 *ℤ x.L +ℤ exact_damped c x) (exact_residual_by k c x y);
      T = adjusted c.beta (exact_damped c x) (exact_residual_by k c x y);
      S = λ i. exact_season_by k c x (exact_residual_by k c x y) i;
      p = (exact_turn k c x).next;
      n = suc x.n;
      count = suc x.count;
      missed = x.missed;
      changed = changed_by k x;
    }

-- missing reading accepted: p and the count move as in the step, nothing else changes; but with a trend L becomes L + d and T becomes d, over the next power
abbrev pub exact_missing_by : Calendar → Parameters → Exact → Exact
exact_missing_by k c x =
    record {
      L = cond c.trended (pos 65536 *ℤ x.L +ℤ exact_damped c x) x.L;
      T = cond c.trended (exact_damped c x) x.T;
      S = λ i. cond c.trended (pos 65536 *ℤ x.S i) (x.S i);
      p = (exact_turn k c x).next;
      n = x.n;
      count = suc x.count;
      missed = suc x.missed;
      changed = changed_by k x;
    }

-- a reading that a batch took: where marked, a missing one
unfoldable pub exact_take_by : Calendar → Parameters → Exact → ℤ → Exact
exact_take_by k c x y = cond (is_sentinel y) (exact_missing_by k c x) (exact_reading_by k c x y)

unfoldable pub exact_batch_by : Calendar → Parameters → Exact → List ℤ → Exact
exact_batch_by k c x [] = x
exact_batch_by k c x (y ∷ ys) = exact_batch_by k c (exact_take_by k c x y) ys

-- without clock changes
abbrev pub exact_residual : Parameters → Exact → ℤ → ℤ
exact_residual = exact_residual_by no_changes

abbrev pub exact_season : Parameters → Exact → ℤ → ℕ → ℤ
exact_season = exact_season_by no_changes

abbrev pub exact_reading : Parameters → Exact → ℤ → Exact
exact_reading = exact_reading_by no_changes

abbrev pub exact_missing : Parameters → Exact → Exact
exact_missing = exact_missing_by no_changes

-- ---- a forecast. d1 = φ × T, and each next d is φ × the one before: dj is over j powers more
unfoldable pub exact_trend_at : ℕ → ℤ → ℕ → ℤ
exact_trend_at F b zero = b
exact_trend_at F b (suc j) = pos F *ℤ exact_trend_at F b j

-- L, plus d1 to dh, over h powers more
unfoldable pub exact_line : Parameters → Exact → ℕ → ℤ
exact_line c x zero = x.L
exact_line c x (suc h) = pos 65536 *ℤ exact_line c x h +ℤ exact_trend_at c.phi x.T (suc h)

-- plus, with a season, S at place (p + h − 1) modulo m
unfoldable pub exact_forecast : Parameters → Exact → ℕ → ℤ
exact_forecast c x h =
    exact_line c x h +ℤ pos (65536 ^ h) *ℤ cond c.seasonal (x.S ((x.p + h - 1) % c.period)) (pos 0)

-- by a calendar: S at the place that step h of the same walk uses
unfoldable pub exact_forecast_by : Calendar → Parameters → Exact → ℕ → ℤ
exact_forecast_by k c x h =
    exact_line c x h
    +ℤ pos (65536 ^ h) *ℤ cond c.seasonal (x.S (place_from k c.period x.p x.count h)) (pos 0)

-- ---- where it stands after a call; it is fed no more than the event
unfoldable pub exact_after : Parameters → Exact → Event → Exact
exact_after c x (observed k y accepted) = cond accepted (exact_reading_by k c x y) x
exact_after c x (unobserved k accepted) = cond accepted (exact_missing_by k c x) x
exact_after c x untold = x
exact_after c x (series k ys taken) = exact_batch_by k c x (take taken ys)
exact_after c x (horizon h accepted) = x
exact_after c x (horizons h accepted) = x
exact_after c x (horizon_on k h accepted) = x
exact_after c x (horizons_on k h accepted) = x

-- ---- what a number of an answer is compared with: L and n; or the exact forecast, its horizon, its power, how many missing readings were accepted before it, and on how
-- many steps accepted before it a list took effect
pub data Expected : Type 0 where
  level_is : (L : ℤ) (n : ℕ) → Expected
  forecast_is : (F : ℤ) (h power missed changed : ℕ) → Expected

abbrev pub expected_forecast : Parameters → Exact → ℕ → Expected
expected_forecast c x h = forecast_is (exact_forecast c x h) h (exponent c x + h) x.missed x.changed

abbrev pub expected_forecast_by : Calendar → Parameters → Exact → ℕ → Expected
expected_forecast_by k c x h = forecast_is (exact_forecast_by k c x h) h (exponent c x + h) x.missed x.changed

-- L and n right after each reading of a batch
unfoldable pub expected_levels_by : Calendar → Parameters → Exact → List ℤ → List Expected
expected_levels_by k c x [] = []
expected_levels_by k c x (y ∷ ys) =
    level_is (exact_take_by k c x y).L (exact_take_by k c x y).n ∷ expected_levels_by k c (exact_take_by k c x y) ys

-- horizons 1 to h
unfoldable pub up_to : (ℕ → Expected) → ℕ → List Expected
up_to f zero = []
up_to f (suc h) = up_to f h ++ (f (suc h) ∷ [])

unfoldable pub expected : Parameters → Exact → Event → List Expected
expected c x (observed k y accepted) = []
expected c x (unobserved k accepted) = []
expected c x untold = []
expected c x (series k ys taken) = expected_levels_by k c x (take taken ys)
expected c x (horizon h accepted) = cond accepted (expected_forecast c x h ∷ []) []
expected c x (horizons h accepted) = cond accepted (up_to (expected_forecast c x) h) []
expected c x (horizon_on k h accepted) = cond accepted (expected_forecast_by k c x h ∷ []) []
expected c x (horizons_on k h accepted) = cond accepted (up_to (expected_forecast_by k c x) h) []

-- ---- document 02, W-209: the exact recursion is kept and brought back with the state, its opening and its readings with it. One that runs has the parameters of the state
-- that was exact_of
pub record Run : Type 0 where
  pub parameters : Parameters
  pub exact : Exact

abbrev pub run_of : State → Run
run_of s = record { parameters = parameters_of s; exact = exact_of s }

-- the one that runs beside the state that stands, and the one that was kept with each slot's
pub record Beside : Type 0 where
  pub run : Run
  pub kept : ℕ → Run

-- at first no slot holds a state, and what is said to be kept with it is never brought back
abbrev pub starting_from : Run → Beside
starting_from r = record { run = r; kept = λ slot. r }

abbrev pub beside_of : State → Beside
beside_of s = starting_from (run_of s)

-- an accepted 50 keeps the one that runs, an accepted 51 brings back the slot's own, and an accepted group starts anew; a group empties no slot
unfoldable pub beside_after : Beside → Notice → Beside
beside_after b (called e) =
    let r = b.run in
    record { run = record { parameters = r.parameters; exact = exact_after r.parameters r.exact e }; kept = b.kept }
beside_after b (storing slot accepted) = record { run = b.run; kept = λ k. cond (accepted && eqb k slot) b.run (b.kept k) }
beside_after b (restored slot accepted) = record { run = cond accepted (b.kept slot) b.run; kept = b.kept }
beside_after b (opening t accepted) = record { run = cond accepted (run_of t) b.run; kept = b.kept }

-- a call's numbers are compared with those of the one that runs; there is nothing else to compare
unfoldable pub expected_by : Run → Notice → List Expected
expected_by r (called e) = expected r.parameters r.exact e
expected_by r (storing slot accepted) = []
expected_by r (restored slot accepted) = []
expected_by r (opening t accepted) = []
