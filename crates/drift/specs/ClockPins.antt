-- What keeps demand 3 over clock changes (document 02, W-208) from being read weaker or emptier than it is: claims that fail, the condition of the season's limit, and runs
-- with where the exact recursion stands and what is compared. Each is computed.
use Rattle.std.specs.Prelude.{ℕ, ◌*◌, ◌^◌, false, List, [], ◌∷◌, ◌≡◌, ℤ, pos, negsuc, replicate}
use Rattle.calendars.specs.Calendars.{calendar_of}
use Rattle.state.specs.Scores.{no_score}
use Rattle.state.specs.States.{state_of}
use Rattle.state.specs.declared.State.{State}
use Rattle.traces.specs.Calls.{Call, Reading, Batch, ReadingOn, MissingOn, BatchOn, ForecastOn, ForecastsOn, after}
use Rattle.drift.specs.Exact.{parameters_of, Exact, exact_of, level_is, forecast_is}
use Rattle.drift.specs.Limits.{WithinLimit}
use Rattle.drift.specs.Pins.{seasonal, plain, standing, ClaimOf, OpensTrendless, beside_from, compared}

-- ---- claims that fail: a day with α = 0 and γ = 1, so that its limit is 24 + 48 = 72; l is 72 and L just below 0, and n/2 is 73. With α = 1/2 a level in a cell is 1 from L
-- at n = 1
abbrev pub resting : State
resting = seasonal 24 0 65536 (pos 72) []

abbrev pub below : Exact
below = standing (negsuc 0) 146 0 (pos 0)

pub record ClocksRefused : Type 0 where
  -- also where the forecast's own walk meets a list: place 2 is due at count 2, the step of horizon 3
  pub forecast : ClaimOf resting below (ForecastOn (calendar_of (2 ∷ []) []) 3 ∷ []) → ⊥
  pub forecasts : ClaimOf resting below (ForecastsOn (calendar_of [] (2 ∷ [])) 3 (replicate 3 (pos 0)) ∷ []) → ⊥
  pub cell : ClaimOf (seasonal 24 32768 32768 (pos 2) []) (standing (pos 0) 0 0 (pos 0)) (BatchOn (calendar_of (7 ∷ []) []) (pos 0 ∷ pos 0 ∷ []) (replicate 2 (pos 0)) ∷ []) → ⊥
  -- a listed count at which place 0 is due has no effect, and a forecast after it is compared
  pub carried : ClaimOf resting below (ReadingOn (calendar_of (0 ∷ []) []) (pos 0) ∷ ForecastOn (calendar_of [] []) 1 ∷ []) → ⊥

-- ---- the condition of the season's limit: no list took effect on an accepted step. Without season none can, and its limit stays
pub record ClocksNeeded : Type 0 where
  pub claimed : WithinLimit (parameters_of resting) (pos 73) (forecast_is (pos 0) 1 1 0 0) → ⊥
  pub unclaimed : (z F : ℤ) (h power : ℕ) → WithinLimit (parameters_of resting) z (forecast_is F h power 0 1)
  pub seasonless : WithinLimit (parameters_of (plain (pos 0))) (pos 2) (forecast_is (pos 0) 1 1 0 1) → ⊥

-- ---- runs from place 2 at count 100, with season values 1, 2 and 3 reading units at places 2, 3 and 4, α = 1/4 and γ = 1/2
abbrev pub day : State
day = state_of false 4 24 16384 0 32768 0 (pos 0) (pos 0) (pos 0 ∷ pos 0 ∷ pos 65536 ∷ pos 131072 ∷ pos 196608 ∷ []) 2 100 no_score

-- where the exact recursion stands: p, the count, on how many steps a list took effect, and S at places 2, 3 and 4
pub record Stands (x : Exact) (p count changed : ℕ) (at2 at3 at4 : ℤ) : Type 0 where
  pub place : x.p ≡ p
  pub steps : x.count ≡ count
  pub effects : x.changed ≡ changed
  pub second : x.S 2 ≡ at2
  pub third : x.S 3 ≡ at3
  pub fourth : x.S 4 ≡ at4

-- after one call, over so many powers
abbrev pub StandsAfter : Call → (power p changed : ℕ) (at2 at3 : ℤ) → Type 0
StandsAfter call power p changed at2 at3 = Stands (beside_from day (call ∷ [])) p 101 changed at2 at3 (pos (196608 * 65536 ^ power))

-- a list of calls: the forecasts' walk skips place 2; place 2 is repeated by a reading and skipped by a missing one; a listed count at which place 4 is due; a count in both
-- lists (20); 21 missing readings, and place 2 is due again; a batch that repeats it, skips it and goes on; a forecast whose step 22 skips it
unfoldable pub clocks : List Call
clocks =
    ForecastsOn (calendar_of (100 ∷ []) []) 3 (replicate 3 (pos 9))
    ∷ ReadingOn (calendar_of [] (100 ∷ [])) (pos 5)
    ∷ MissingOn (calendar_of (101 ∷ []) [])
    ∷ ReadingOn (calendar_of (102 ∷ []) []) (pos 3)
    ∷ ReadingOn (calendar_of (103 ∷ []) (103 ∷ [])) (pos 3)
    ∷ Batch (replicate 21 (negsuc 2147483647)) (replicate 21 (pos 9))
    ∷ BatchOn (calendar_of (125 ∷ []) (124 ∷ [])) (pos 1 ∷ pos 2 ∷ pos 4 ∷ []) (replicate 3 (pos 9))
    ∷ ForecastOn (calendar_of (148 ∷ []) []) 22
    ∷ []

pub record ClocksShown : Type 0 where
  -- a reading of 6, skipping place 2: S moves at place 3, and p is 4
  pub skipped : StandsAfter (ReadingOn (calendar_of (100 ∷ []) []) (pos 6)) 2 4 1 (pos (65536 ^ 3)) (pos (4 * 65536 ^ 3))
  -- repeating it: S moves at place 2, and p is 2
  pub repeated : StandsAfter (ReadingOn (calendar_of [] (100 ∷ [])) (pos 5)) 2 2 1 (pos (3 * 65536 ^ 3)) (pos (2 * 65536 ^ 3))
  -- a missing one moves p and the count alone
  pub missed : StandsAfter (MissingOn (calendar_of (100 ∷ []) [])) 0 4 1 (pos 65536) (pos 131072)
  -- a count that is not listed, and the same call without lists
  pub unlisted : StandsAfter (ReadingOn (calendar_of (101 ∷ []) (99 ∷ [])) (pos 5)) 2 3 0 (pos (3 * 65536 ^ 3)) (pos (2 * 65536 ^ 3))
  pub plain : StandsAfter (Reading (pos 5)) 2 3 0 (pos (3 * 65536 ^ 3)) (pos (2 * 65536 ^ 3))
  pub opens : OpensTrendless day
  pub holds : ClaimOf day (exact_of day) clocks
  -- after all of them: p is the state's, and a list took effect on 4 of 27 steps, of which 22 were missing readings
  pub stands : Stands (beside_from day clocks) 5 127 4 (pos (106496 * 65536 ^ 10)) (pos (129024 * 65536 ^ 10)) (pos (211456 * 65536 ^ 10))
  pub place : (after day clocks).index ≡ 5
  pub gaps : (beside_from day clocks).missed ≡ 22
  pub compares : compared (parameters_of day) day (exact_of day) clocks
      ≡ (
        pos 131072 ∷ pos 196608 ∷ pos 0 ∷ [],
        forecast_is (pos (131072 * 65536)) 1 1 0 0 ∷ forecast_is (pos (196608 * 65536 ^ 2)) 2 2 0 0 ∷ forecast_is (pos 0) 3 3 0 0 ∷ [],
      )
      ∷ ([], [])
      ∷ ([], [])
      ∷ ([], [])
      ∷ ([], [])
      ∷ (replicate 21 (pos 49152), replicate 21 (level_is (pos (49152 * 65536 ^ 4)) 2))
      ∷ (
        pos 4096 ∷ pos 3072 ∷ pos 26880 ∷ [],
        level_is (pos (4096 * 65536 ^ 6)) 3 ∷ level_is (pos (3072 * 65536 ^ 8)) 4 ∷ level_is (pos (26880 * 65536 ^ 10)) 5 ∷ [],
      )
      ∷ (pos 155904 ∷ [], forecast_is (pos (155904 * 65536 ^ 32)) 22 32 22 4 ∷ [])
      ∷ []

pub record ClockPins : Type 0 where
  pub refused : ClocksRefused
  pub needed : ClocksNeeded
  pub shown : ClocksShown
