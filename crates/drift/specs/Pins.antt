-- What keeps demand 3 from being read weaker or emptier than it is: claims that fail, runs that come up to the limits, runs that show what the limits must leave
-- out, and a run with what is compared. Each is computed.
use Rattle.std.specs.Prelude.{ℕ, zero, suc, ◌+◌, ◌*◌, ◌-◌, ◌/◌, ◌^◌, ◌≤◌, ◌<◌, true, false, cond, not, List, [], ◌∷◌, ◌++◌, map, ◌≡◌, eqb, ℤ, pos, negsuc, replicate}
use Rattle.models.specs.Models.{usual_gains, ties_to_even}
use Rattle.state.specs.Rejections.{truncated}
use Rattle.state.specs.Scores.{no_score}
use Rattle.state.specs.States.{state_of}
use Rattle.state.specs.declared.State.{State}
use Rattle.ets.specs.Steps.{after_reading, after_missing}
use Rattle.forecasts.specs.Forecasts.{max_horizon, display_horizon, forecast_of}
use Rattle.slices.specs.Slices.{in_place_code}
use Rattle.traces.specs.Calls.{followed, cut, slice_of, Call, Reading, Missing, Switch, Batch, Forecast, Forecasts, InPlaceReading, InPlaceMissing, InPlaceSwitch, InPlaceForecast, result, after}
use Rattle.traces.specs.Operations.{standing_of, on_state}
use Rattle.drift.specs.Exact.{Parameters, parameters_of, Exact, exact_of, exact_reading, exact_forecast, exact_after, Expected, level_is, forecast_is, expected, starting_from}
use Rattle.drift.specs.Limits.{distance, SeasonalBound, WithinLimit, Trendless, Claim, Opening}
use Rattle.drift.specs.Components.{OneUnit, StepError, HalfUnit, skipped}
use Rattle.drift.specs.ForecastErrors.{exact_from, DampedBound}

-- ---- states, at place 0: a season of m places, exact_of by 18 where A + G is above 65,536; a damped trend
abbrev pub seasonal : ℕ → ℕ → ℕ → ℤ → List ℤ → State
seasonal m A G l values = state_of (not (usual_gains A 0 G)) 4 m A 0 G 0 l (pos 0) values 0 0 no_score

abbrev pub damped : ℕ → ℕ → ℤ → ℤ → State
damped A F l b = state_of false 2 0 A 0 0 F l b [] 0 0 no_score

-- α = 1/2, so that 1/(2α) is 1
abbrev pub plain : ℤ → State
plain l = state_of false 0 0 32768 0 0 0 l (pos 0) [] 0 0 no_score

-- an exact recursion that stands at L and n, with S at one place (the others are 0)
abbrev pub standing : ℤ → ℕ → ℕ → ℤ → Exact
standing L n k S = record { L = L; T = pos 0; S = λ j. cond (eqb j k) S (pos 0); p = 0; n = n; count = 0; missed = 0; changed = 0 }

-- of a list of calls, which keeps no state
abbrev pub ClaimOf : State → Exact → List Call → Type 0
ClaimOf s x calls = Claim (standing_of s) (starting_from (record { parameters = parameters_of s; exact = x })) (map on_state calls)

-- an opening state of a trendless model: its claim is no empty one
abbrev pub OpensTrendless : State → Type 0
OpensTrendless s = Opening s × Trendless (parameters_of s)

-- ---- claims that fail: a distance just above a limit, with all other comparisons within theirs
pub record Refused : Type 0 where
  -- n/2 at n = 1 and n = 3: the least distance above it
  pub level_one : ClaimOf (plain (pos 1)) (standing (pos (65536 ^ 2 / 2 - 1)) 1 0 (pos 0)) [] → ⊥
  pub level_three : ClaimOf (plain (pos 2)) (standing (pos (65536 ^ 6 / 2 - 1)) 3 0 (pos 0)) [] → ⊥
  -- each of 48 places: S is 1, the season value 0
  pub places : (k : ℕ) → k < 48 → ClaimOf (seasonal 48 32768 32768 (pos 0) []) (standing (pos 0) 0 k (pos 1)) [] → ⊥
  -- the first of a batch's two levels is 1 from L at n = 1; the second is 1 from it at n = 2
  pub cell : ClaimOf (plain (pos 2)) (standing (pos 0) 0 0 (pos 0)) (Batch (pos 0 ∷ pos 0 ∷ []) (replicate 2 (pos 0)) ∷ []) → ⊥
  -- 1/(2α) = 1 by each call that forecasts: l is 1, L just below 0, and n/2 is 2
  pub forecast : ClaimOf (plain (pos 1)) (standing (negsuc 0) 4 0 (pos 0)) (Forecast max_horizon 1 ∷ []) → ⊥
  pub forecasts : ClaimOf (plain (pos 1)) (standing (negsuc 0) 4 0 (pos 0)) (Forecasts max_horizon 2 (replicate 2 (pos 0)) ∷ []) → ⊥
  pub display : ClaimOf (plain (pos 1)) (standing (negsuc 0) 4 0 (pos 0)) (Forecast display_horizon 1 ∷ []) → ⊥
  pub display_all : ClaimOf (plain (pos 1)) (standing (negsuc 0) 4 0 (pos 0)) (Forecasts display_horizon 2 (replicate 2 (pos 0)) ∷ []) → ⊥
  pub in_place : ClaimOf (plain (pos 1)) (standing (negsuc 0) 4 0 (pos 0)) (InPlaceForecast (followed []) 1 (pos 0) ∷ []) → ⊥
  -- after a switch of the rounding rule, direct and in place, the exact recursion stands where it stood, and is compared with
  pub switched : ClaimOf (plain (pos 1)) (standing (negsuc 0) 4 0 (pos 0)) (Switch ∷ Forecast max_horizon 1 ∷ []) → ⊥
  pub switched_in_place : ClaimOf (plain (pos 1)) (standing (negsuc 0) 4 0 (pos 0)) (InPlaceSwitch (followed []) ∷ Forecast max_horizon 1 ∷ []) → ⊥
  -- the exact recursion goes on from call to call: after a rejected one it stands where it stood
  pub carried : ClaimOf (plain (pos 1)) (standing (negsuc 0) 4 0 (pos 0)) (Forecast max_horizon 513 ∷ Forecast max_horizon 1 ∷ []) → ⊥
  -- m + 2m/(γ (1 − α)^m): 2 + 4 × 8 = 34 for m = 2 and α = γ = 1/2; 3 + 6 × 64/27 = 17.2.. for m = 3, α = 1/4, γ = 1
  pub season_two : ClaimOf (seasonal 2 32768 32768 (pos 34) []) (standing (negsuc 0) 70 0 (pos 0)) (Forecast max_horizon 1 ∷ []) → ⊥
  pub season_three : ClaimOf (seasonal 3 16384 65536 (pos 18) []) (standing (pos 0) 36 0 (pos 0)) (Forecast max_horizon 1 ∷ []) → ⊥
  -- one unit for a step
  pub step : OneUnit (pos 0) (pos (65536 ^ 2 + 1)) → ⊥
  -- half a unit for a missing reading, with a trend and without
  pub missing : HalfUnit 1 (pos 0) (pos (65536 / 2 + 1)) → ⊥
  pub missing_flat : HalfUnit 0 (pos 0) (pos 1) → ⊥
  -- h × (h + 1)/4 at h = 1, 2 and 512: the least distance above it
  pub damped_one : DampedBound 1 (pos 0) (pos (65536 / 2 + 1)) → ⊥
  pub damped_two : DampedBound 2 (pos 0) (pos (3 * 65536 ^ 2 / 2 + 1)) → ⊥
  pub damped_last : DampedBound 512 (pos 0) (pos (65664 * 65536 ^ 512 + 1)) → ⊥

-- ---- runs that come up to the limits: where the exact recursion stands after a list of calls
unfoldable pub beside : Parameters → State → Exact → List Call → Exact
beside c s x [] = x
beside c s x (k ∷ ks) = beside c (result s k).state (exact_after c x (result s k).event) ks

abbrev pub beside_from : State → List Call → Exact
beside_from s calls = beside (parameters_of s) s (exact_of s) calls

-- how far the level is from L after so many readings 0 from the state `plain (pos 1)`, in which R leaves l at 1, by either rule, and L is halved by each
abbrev pub apart_after : ℕ → List Call → ℕ
apart_after n calls = distance (2 * n) (after (plain (pos 1)) calls).level (beside_from (plain (pos 1)) calls).L

unfoldable pub creep : ℕ → ℕ
creep n = apart_after n (replicate n (Reading (pos 0)))

-- with a switch after n of them, and k more
unfoldable pub creep_across : ℕ → ℕ → ℕ
creep_across n k = apart_after (n + k) (replicate n (Reading (pos 0)) ++ (Switch ∷ replicate k (Reading (pos 0))))

pub record Attained : Type 0 where
  -- n/2 after one reading; 1/(2α) = 1 but for a 65,536th after sixteen
  pub half : 2 * creep 1 ≡ 1 * 65536 ^ 2
  pub plain_sixteen : 65536 * creep 16 ≡ 65535 * 65536 ^ 32
  -- with ties to even from the start, and with a switch after eight: the limit is met too
  pub even_sixteen : 65536 * creep_across 0 16 ≡ 65535 * 65536 ^ 32
  pub across : 65536 * creep_across 8 8 ≡ 65535 * 65536 ^ 32
  -- one unit but for a 65,536th: d is 1 for 1/2, and R(A × e) is 1 for 1/2 and a bit
  pub step : 65535 * 65536 ^ 2 ≤ 65536 * distance 2 (after_reading (damped 1 32768 (pos 32767) (pos 1)) (pos 1)).level (exact_reading (parameters_of (damped 1 32768 (pos 32767) (pos 1))) (exact_of (damped 1 32768 (pos 32767) (pos 1))) (pos 1)).L
  -- half a unit at a missing reading: d is 1 for 1/2
  pub missing : 2 * distance 1 (after_missing (damped 0 32768 (pos 0) (pos 1))).level (skipped (damped 0 32768 (pos 0) (pos 1))).L ≡ 1 * 65536 ^ 1
  -- h × (h + 1)/4: 1/2 at h = 1, and 18 but for 42 65,536ths at h = 8
  pub damped_one : 4 * distance 1 (forecast_of (damped 0 65535 (pos 0) (pos 32768)) 1) (exact_from (damped 0 65535 (pos 0) (pos 32768)) 1) ≡ 1 * (1 + 1) * 65536 ^ 1
  pub damped_eight : (18 * 65536 - 42) * 65536 ^ 8 ≤ 65536 * distance 8 (forecast_of (damped 0 65535 (pos 0) (pos 32768)) 8) (exact_from (damped 0 65535 (pos 0) (pos 32768)) 8)

-- ---- what a list of calls compares, call by call
unfoldable pub compared : Parameters → State → Exact → List Call → List (List ℤ × List Expected)
compared c s x [] = []
compared c s x (k ∷ ks) =
    let r = result s k in
    (r.numbers, expected c x r.event) ∷ compared c r.state (exact_after c x r.event) ks

-- ---- what the limits leave out. α is 1/65536 and γ is 1; the first residual is 32767 above a whole number of reading units, so that R rounds down by nearly half a unit
abbrev pub creeping : ℤ → State
creeping s1 = seasonal 2 1 65536 (pos 0) (negsuc 32766 ∷ s1 ∷ [])

-- n pairs of readings from −16384 × j and −16383 × j on: each is rounded down again
unfoldable pub falling : ℕ → ℕ → List Call
falling zero j = []
falling (suc n) j = Reading (negsuc (16384 * j + 16383)) ∷ Reading (negsuc (16383 * j + 16382)) ∷ falling n (suc j)

-- the same at the first place only: the second one's readings are missing
unfoldable pub gaps : ℕ → ℕ → List Call
gaps zero j = []
gaps (suc n) j = Reading (negsuc (32767 * j + 32766)) ∷ Missing ∷ gaps n (suc j)

abbrev pub fallen : State
fallen = after (creeping (negsuc 16382)) (falling 7 0)

abbrev pub fallen_exact : Exact
fallen_exact = beside_from (creeping (negsuc 16382)) (falling 7 0)

abbrev pub gone : State
gone = after (creeping (pos 0)) (gaps 13 0)

abbrev pub gone_exact : Exact
gone_exact = beside_from (creeping (pos 0)) (gaps 13 0)

pub record Needed : Type 0 where
  -- the season's limit does not hold of the level alone: level and season creep apart in step
  pub level_alone : (fallen_exact.n ≡ 14) × (fallen_exact.missed ≡ 0) × (SeasonalBound (parameters_of fallen) 28 fallen.level fallen_exact.L → ⊥)
  -- nor of a forecast after missing readings: an untouched place stays behind a level that creeps
  pub answer : (result gone (Forecast max_horizon 2)).numbers ≡ negsuc 425970 ∷ []
  pub judged : expected (parameters_of gone) gone_exact (result gone (Forecast max_horizon 2)).event ≡ forecast_is (exact_forecast (parameters_of gone) gone_exact 2) 2 28 13 0 ∷ []
  pub missing : SeasonalBound (parameters_of gone) 28 (negsuc 425970) (exact_forecast (parameters_of gone) gone_exact 2) → ⊥
  pub unclaimed : WithinLimit (parameters_of gone) (negsuc 425970) (forecast_is (exact_forecast (parameters_of gone) gone_exact 2) 2 28 13 0)

-- ---- a run with every kind of call, from a count of 2^48 − 5: rejected are the reading 1,000,001 (13), the forecasts at 513 and, on the bedside display, at 49
-- (11), the calls in place with a byte after the snapshot (3) and the one with a byte too few (4), the batch at its third reading (13), and the last reading, for the
-- count is then full (14)
abbrev pub opening : State
opening = state_of false 4 2 20000 0 30001 0 (pos 0) (pos 0) (pos 65536 ∷ negsuc 65535 ∷ []) 0 281474976710651 no_score

-- the same with multiplicative errors, by bit 3 (document 02, W-205)
abbrev pub relative : State
relative = state_of false 12 2 20000 0 30001 0 (pos 0) (pos 0) (pos 65536 ∷ negsuc 65535 ∷ []) 0 281474976710651 no_score

unfoldable pub calls : List Call
calls =
    Reading (pos 5)
    ∷ InPlaceSwitch (followed (0x14 ∷ []))
    ∷ Forecasts max_horizon 3 (replicate 4 (pos 9))
    ∷ Switch
    ∷ Forecasts display_horizon 2 (replicate 2 (pos 9))
    ∷ Forecast display_horizon 2
    ∷ Reading (pos 1000001)
    ∷ Forecast max_horizon 513
    ∷ Forecast display_horizon 49
    ∷ InPlaceReading (followed []) (pos 3)
    ∷ InPlaceForecast (followed []) 2 (pos 7)
    ∷ InPlaceReading (followed (0x21 ∷ [])) (pos 4)
    ∷ InPlaceReading (cut 90) (pos 4)
    ∷ InPlaceSwitch (cut 91)
    ∷ Batch (pos 1 ∷ negsuc 2147483647 ∷ pos 1000001 ∷ pos 2 ∷ []) (replicate 5 (pos 9))
    ∷ InPlaceMissing (cut 91)
    ∷ Forecast max_horizon 1
    ∷ Reading (pos 1)
    ∷ []

pub record Shown : Type 0 where
  -- a step whose d is 1,000,000/65536 = 15.2.., rounded to 15
  pub step : StepError (damped 0 1 (pos 0) (pos 1000000)) (pos 0)
  pub opens : OpensTrendless opening
  -- a state that 18 exact_of is an opening state too
  pub opens_outside : OpensTrendless (creeping (pos 0))
  -- and so is one with multiplicative errors
  pub opens_relative : OpensTrendless relative
  pub holds : ClaimOf opening (exact_of opening) calls
  -- ties went up before the switch and go to even after the list
  pub rule_before : ties_to_even (after opening (Reading (pos 5) ∷ InPlaceSwitch (followed (0x14 ∷ [])) ∷ [])).model ≡ false
  pub rule_after : ties_to_even (after opening calls).model ≡ true
  pub short : in_place_code (slice_of opening (cut 90)) ≡ truncated
  pub compares : compared (parameters_of opening) opening (exact_of opening) calls
      ≡ ([], [])
      ∷ ([], [])
      ∷ (
        pos 14464 ∷ pos 265540 ∷ pos 14464 ∷ [],
        forecast_is (pos (947912704 * 65536 ^ 2)) 1 3 0 0 ∷ forecast_is (pos (17402429440 * 65536 ^ 3)) 2 4 0 0 ∷ forecast_is (pos (947912704 * 65536 ^ 4)) 3 5 0 0 ∷ [],
      )
      ∷ ([], [])
      ∷ (pos 14464 ∷ pos 265540 ∷ [], forecast_is (pos (947912704 * 65536 ^ 2)) 1 3 0 0 ∷ forecast_is (pos (17402429440 * 65536 ^ 3)) 2 4 0 0 ∷ [])
      ∷ (pos 265540 ∷ [], forecast_is (pos (17402429440 * 65536 ^ 3)) 2 4 0 0 ∷ [])
      ∷ ([], [])
      ∷ ([], [])
      ∷ ([], [])
      ∷ ([], [])
      ∷ (pos 153432 ∷ [], forecast_is (pos (658983803158528 * 65536 ^ 4)) 2 6 0 0 ∷ [])
      ∷ ([], [])
      ∷ ([], [])
      ∷ ([], [])
      ∷ (pos 57586 ∷ pos 57586 ∷ [], level_is (pos (16209040145121280000 * 65536 ^ 3)) 3 ∷ level_is (pos (16209040145121280000 * 65536 ^ 3)) 3 ∷ [])
      ∷ ([], [])
      ∷ (pos 75432 ∷ [], forecast_is (pos (21232154068813611008 * 65536 ^ 4)) 1 7 2 0 ∷ [])
      ∷ ([], [])
      ∷ []

pub record Pins : Type 0 where
  pub refused : Refused
  pub attained : Attained
  pub needed : Needed
  pub shown : Shown
