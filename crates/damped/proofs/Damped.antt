-- W-207: in every list of operations the one-step forecasts are within 1/K while a damped model without season stands that meets the conditions.
use mathlib.Core.Path.{◌≡◌, refl, ◌∙◌, ap, subst}
use mathlib.Core.Bool.{false}
use Prim.Native.Nat.{ℕ}
use native.Mathlib.Omega.{arith}
use lib.IntN.{ℤ, pos}
use Rattle.models.specs.Models.{has_season}
use Rattle.state.specs.Switching.{switched}
use Rattle.state.specs.declared.State.{State}
use Rattle.state.proofs.Passing.{no_season}
use Rattle.state.proofs.Switches.{switch-law}
use Rattle.ets.specs.Steps.{step_code, missing_code, after_reading, after_missing}
use Rattle.ets.proofs.Kept.{reading-typed, reading-kept, missing-kept}
use Rattle.forecasts.specs.Forecasts.{forecast_of}
use Rattle.traces.specs.Laws.{Passing}
use Rattle.drift.specs.Exact.{Parameters, parameters_of, Exact, exact_of, exact_reading, exact_missing, exact_season_by, expected_forecast}
use Rattle.drift.proofs.StepErrors.{none_apart}
use Rattle.drift.proofs.Runs.{Keeps, claim}
use Rattle.damped.specs.Limits.{WithinOneStep, Contracting, OneStepForecasts}
use Rattle.damped.proofs.Contraction.{near-start}
use Rattle.damped.proofs.Invariant.{N, C, M, Damped, damped, Close, forecast-close, close-reading}

-- the invariant, with the parameters that the opening state had: close as long as no reading was missed
record Good (c : Parameters) (s : State) (x : Exact) : Type 0 where
  passing : Passing s
  same : parameters_of s ≡ c
  bare : (k : ℕ) → x.S k ≡ pos 0
  near : x.missed ≡ 0 → Close c s x

module _ (c : Parameters) (m : Damped c) (s : State) (x : Exact) (w : Good c s x) where
  kept-reading : (y : ℤ) → step_code s y ≡ 0 → Good c (after_reading s y) (exact_reading c x y)
  unfolding exact_season_by
  kept-reading y z =
      record {
        passing = record { typed = reading-typed s y w.passing.typed; passes = reading-kept s y w.passing.typed.cells z };
        same = w.same;
        bare = λ k. rw m.seasonless;
        near = λ u. subst (λ (c : Parameters). Damped c → Close c s x → Close c (after_reading s y) (exact_reading c x y)) w.same (λ m n. close-reading s x m n u y (w.bare x.p)) m (w.near u);
      }

  kept-missing : missing_code s ≡ 0 → Good c (after_missing s) (exact_missing c x)
  kept-missing z =
      record {
        passing = record { typed = record { cells = w.passing.typed.cells; low = w.passing.typed.low }; passes = missing-kept s z };
        same = w.same;
        bare = λ k. rw (m.trended, w.bare k);
        near = λ u. absurd (omega arith);
      }

  kept-switch : Good c (switched s) x
  kept-switch =
      let law = switch-law s in
      record {
        passing = record { typed = record { cells = w.passing.typed.cells; low = w.passing.typed.low }; passes = law.checks ∙ w.passing.passes };
        same = rw (law.trend, law.season) w.same;
        bare = w.bare;
        near = w.near;
      }

  one-step-within : (h : ℕ) → WithinOneStep c (forecast_of s h) (expected_forecast c x h)
  unfolding WithinOneStep
  one-step-within h e u =
      rw e (subst (λ (c : Parameters). Damped c → Close c s x → WithinOneStep c (forecast_of s 1) (expected_forecast c x 1)) w.same (λ m n. λ _ _. forecast-close s x m n u) m (w.near u) refl u)

  -- without season no list is accepted: m is 0
  no-day : s.period ≡ 24 → ⊥
  no-day d =
      let none : has_season s.model ≡ false = ap (λ (p : Parameters). p.seasonal) w.same ∙ m.seasonless in
      omega (arith, (no_season s w.passing.passes none).period)

keeps : (c : Parameters) (m : Damped c) → Keeps c (WithinOneStep c) (Good c)
unfolding WithinOneStep
keeps c m =
    record {
      passing = λ s x w. w.passing;
      reading = kept-reading c m;
      missing = kept-missing c m;
      switch = kept-switch c m;
      level = λ s x w. tt;
      forecast = one-step-within c m;
      aligned = λ s x w d. absurd (no-day c m s x w d);
      placing = λ s x w d p h. absurd (no-day c m s x w d);
      walk = λ s x w k f h. absurd (no-day c m s x w f.day);
    }

-- ---- the opening state: nothing is off
fits : (c : Parameters) → Contracting c → Damped c
fits c m = damped c m.trended m.seasonless (omega arith) m.gains m.margin

start : (s : State) → Passing s → Contracting (parameters_of s) → Good (parameters_of s) s (exact_of s)
start s w m =
    record {
      passing = w;
      same = refl;
      bare = λ k. rw m.seasonless;
      near = λ _. rw (none_apart s.level, none_apart s.trend) (near-start s.beta (C (parameters_of s)) s.phi (M (parameters_of s)) (N (parameters_of s)) 1);
    }

pub one-step-forecasts : OneStepForecasts
one-step-forecasts s o os =
    claim Contracting WithinOneStep Good (λ c m. keeps c (fits c m)) start (λ (c : Parameters) (s : State) (x : Exact). Unit {0}) (λ c s x w. tt) s o os
