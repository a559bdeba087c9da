-- Document 02, W-208: a computed run that needs the condition of the season's limit over clock changes.
use Rattle.std.specs.Prelude.{◌+◌, true, List, [], ◌∷◌, ◌++◌, ◌≡◌, ℤ, pos, negsuc, replicate}
use Rattle.calendars.specs.Calendars.{calendar_of}
use Rattle.state.specs.Scores.{no_score}
use Rattle.state.specs.States.{state_of}
use Rattle.state.specs.declared.State.{State}
use Rattle.forecasts.specs.Forecasts.{forecast_of}
use Rattle.traces.specs.Calls.{Call, BatchOn, after}
use Rattle.drift.specs.Exact.{parameters_of, exponent, exact_forecast}
use Rattle.drift.specs.Limits.{SeasonalBound}
use Rattle.drift.specs.Pins.{OpensTrendless, beside_from}

-- ---- a run that needs it. Seven days, each of which skips place 2; α = 1/65536 and γ = 1, so that the season's limit is just above 72. Rounding adds half a fixed-point unit to
-- the level with each of 161 readings; the other places' season values make up for it, but not that of place 2, which no step uses
abbrev pub wandering : State
wandering = state_of true 4 24 1 0 65536 0 (pos 0) (pos 0) (replicate 6 (pos 32768)) 0 0 no_score

-- 23 readings: for places 0, 1, 3 and 4, for place 5, which goes up and down from day to day, and for places 6 to 23. Each is half a reading unit below its forecast, but for
-- what place 5 goes up or down
abbrev pub day_of : ℤ → ℤ → ℤ → List ℤ
day_of before at after = replicate 4 before ++ (at ∷ replicate 18 after)

abbrev pub week : List ℤ
week =
    day_of (pos 0) (pos 32768) (pos 0)
    ++ (day_of (pos 0) (pos 0) (negsuc 0)
    ++ (day_of (negsuc 0) (pos 32767) (negsuc 0)
    ++ (day_of (negsuc 0) (negsuc 0) (negsuc 1)
    ++ (day_of (negsuc 1) (pos 32766) (negsuc 1)
    ++ (day_of (negsuc 1) (negsuc 1) (negsuc 2)
    ++ day_of (negsuc 2) (pos 32765) (negsuc 2))))))

unfoldable pub week_on : List Call
week_on = BatchOn (calendar_of (2 ∷ 25 ∷ 48 ∷ 71 ∷ 94 ∷ 117 ∷ 140 ∷ []) []) week (replicate 161 (pos 0)) ∷ []

-- afterwards the forecast for horizon 3, of place 2, is above the limit
pub record ClocksWander : Type 0 where
  pub opens : OpensTrendless wandering
  pub readings : (beside_from wandering week_on).n ≡ 161
  pub gaps : (beside_from wandering week_on).missed ≡ 0
  pub effects : (beside_from wandering week_on).changed ≡ 7
  pub place : (after wandering week_on).index ≡ 0
  pub beyond : let x = beside_from wandering week_on in SeasonalBound (parameters_of wandering) (exponent (parameters_of wandering) x + 3) (forecast_of (after wandering week_on) 3) (exact_forecast (parameters_of wandering) x 3) → ⊥
