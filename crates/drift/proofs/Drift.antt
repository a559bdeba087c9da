-- Demand 3: from any state that the checks let pass, every list of operations stays within the limits while a trendless model stands.
use mathlib.Core.Path.{◌≡◌, refl, sym, ap, subst}
use mathlib.Core.Bool.{Bool, true, false, cond}
use Prim.Native.Nat.{ℕ, ◌*◌, ◌-◌, ◌<◌}
use native.Mathlib.Omega.{arith}
use lib.IntN.{ℤ, pos}
use lib.ListN.{get_or}
use Rattle.calendars.specs.Calendars.{Calendar}
use Rattle.models.specs.Models.{has_season}
use Rattle.state.specs.Switching.{switched}
use Rattle.state.specs.declared.State.{State}
use Rattle.state.proofs.Passing.{bounded, no_season, with_season}
use Rattle.state.proofs.Switches.{switch-law}
use Rattle.ets.specs.Steps.{step_code, missing_code, after_reading, after_missing}
use Rattle.ets.proofs.Kept.{reading-kept, missing-kept}
use Rattle.ets.proofs.CalendarLaws.{Followed}
use Rattle.forecasts.specs.Forecasts.{forecast_of}
use Rattle.forecasts.specs.Calendars.{forecast_by}
use Rattle.traces.specs.Laws.{Passing}
use Rattle.drift.specs.Exact.{Parameters, parameters_of, Exact, exact_of, exact_reading, exact_missing, level_is, expected_forecast, expected_forecast_by}
use Rattle.drift.specs.Limits.{HalfPerReading, WithinLimit, StateWithin, Trendless, Demand3}
use Rattle.drift.proofs.Averages.{D, zero_d, Same}
use Rattle.drift.proofs.Spread.{inv-start}
use Rattle.drift.proofs.Errors.{Both}
use Rattle.drift.proofs.Readings.{value_at, level_err, season_err}
use Rattle.drift.proofs.Invariant.{Sized, Good, good-reading, good-missing, good-switch, good_placed}
use Rattle.drift.proofs.Distances.{level-half, value-half, forecast-close, walk-close}
use Rattle.drift.proofs.Runs.{Keeps, claim}

-- ---- the invariant, with the parameters that the opening state had
abbrev Kept : Parameters → State → Exact → Type 0
Kept c s x = (parameters_of s ≡ c) × Good c s x

module _ (c : Parameters) (s : State) (x : Exact) (w : Kept c s x) where
  kept-reading : (y : ℤ) → step_code s y ≡ 0 → Kept c (after_reading s y) (exact_reading c x y)
  kept-reading y z =
      (w.0, subst (λ (c : Parameters). Good c s x → Good c (after_reading s y) (exact_reading c x y)) w.0 (λ g. good-reading s x g y (reading-kept s y g.typed.cells z)) w.1)

  kept-missing : missing_code s ≡ 0 → Kept c (after_missing s) (exact_missing c x)
  kept-missing z =
      (w.0, subst (λ (c : Parameters). Good c s x → Good c (after_missing s) (exact_missing c x)) w.0 (λ g. good-missing s x g (missing-kept s z)) w.1)

  kept-switch : Kept c (switched s) x
  kept-switch = let law = switch-law s in (rw (law.trend, law.season) w.0, good-switch c s x w.1)

  level-within : WithinLimit c s.level (level_is x.L x.n)
  unfolding WithinLimit
  level-within = level-half c s x w.1

  forecast-within : (h : ℕ) → WithinLimit c (forecast_of s h) (expected_forecast c x h)
  forecast-within h = subst (λ (c : Parameters). Good c s x → WithinLimit c (forecast_of s h) (expected_forecast c x h)) w.0 (λ g. forecast-close s x g h) w.1

  walk-within : (k : Calendar) → Followed s.period k → (h : ℕ) → WithinLimit c (forecast_by k s h) (expected_forecast_by k c x h)
  walk-within k f h =
      subst (λ (c : Parameters). Good c s x → WithinLimit c (forecast_by k s h) (expected_forecast_by k c x h)) w.0 (λ g. walk-close s x g h k f) w.1

  -- each of the m season values
  value-is : (k : ℕ) → k < s.period → value_at s k ≡ get_or s.seasonal k (pos 0)
  value-is k l = go (has_season s.model) refl
    where
      go : (b : Bool) → has_season s.model ≡ b → cond b (get_or s.seasonal k (pos 0)) (pos 0) ≡ get_or s.seasonal k (pos 0)
      go true e = refl
      go false e = absurd (omega (arith, (no_season s w.1.passes e).period))

  state-within : StateWithin c s x
  state-within =
      record {
        level = level-half c s x w.1;
        seasons = λ k l. subst (λ (v : ℤ). HalfPerReading x.n v (x.S k)) (value-is k (omega (arith, ap (λ (p : Parameters). p.period) w.0))) (value-half c s x w.1 k);
      }

keeps : (c : Parameters) → Keeps c (WithinLimit c) (Kept c)
keeps c =
    record {
      passing = λ s x w. record { typed = w.1.typed; passes = w.1.passes };
      reading = kept-reading c;
      missing = kept-missing c;
      switch = kept-switch c;
      level = level-within c;
      forecast = forecast-within c;
      aligned = λ s x w m. (w.1.index, w.1.count, sym (ap (λ (p : Parameters). p.period) w.0));
      placing = λ s x w m p h. (w.0, good_placed c s x w.1 p h);
      walk = walk-within c;
    }

-- ---- the opening state: nothing is off
no-error : (e : ℕ) (d : D) → Same d zero_d → Both e d zero_d
no-error e d h = (omega arith, omega arith)

no_size : (a e : ℕ) (d : D) → Same d zero_d → Sized a e d
no_size a e d h = (omega (arith, ap (λ (z : ℕ). a * z) h), omega (arith, ap (λ (z : ℕ). a * z) h))

module _ (s : State) (o : Passing s) (flat : Trendless (parameters_of s)) where
  level-start : Same (level_err s (exact_of s)) zero_d
  level-start = omega arith

  season-start : (k : ℕ) → Same (season_err s (exact_of s) k) zero_d
  season-start k = omega arith

  start : Good (parameters_of s) s (exact_of s)
  start =
      record {
        passes = o.passes;
        typed = o.typed;
        flat = flat;
        index = refl;
        count = refl;
        bare = λ h k. rw h;
        level = no-error (0 * 1) (level_err s (exact_of s)) level-start;
        places = λ k. no-error (0 * 1) (season_err s (exact_of s) k) (season-start k);
        plain = λ h. no_size (65536 * s.alpha) (4294967296 * 1) (level_err s (exact_of s)) level-start;
        cycle = λ h a g z u. inv-start 4294967296 (65536 * (65536 - s.alpha)) (65536 * s.gamma) (65536 * (65536 - s.gamma)) s.period s.index (omega arith) (omega (arith, (bounded s o.passes).gamma)) (omega arith) (omega arith) (omega (arith, (with_season s o.passes h).index)) (level_err s (exact_of s)) (season_err s (exact_of s)) level-start season-start;
      }

pub demand3 : Demand3
demand3 s o os = claim Trendless WithinLimit Kept (λ c flat. keeps c) (λ s w flat. (refl, start s w flat)) StateWithin state-within s o os
