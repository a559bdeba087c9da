-- What keeps the claim of W-207 from being read weaker or emptier than it is: claims that fail, runs that come up to the limit, runs that show what it must leave out,
-- and a run with what is compared. Each is computed.
use Rattle.std.specs.Prelude.{ℕ, zero, suc, ◌+◌, ◌*◌, ◌-◌, ◌/◌, ◌^◌, ◌≤◌, true, false, not, List, [], ◌∷◌, ◌++◌, map, ◌≡◌, ℤ, pos, negsuc, nat_abs, replicate, ◌<ℤ◌}
use Rattle.models.specs.Models.{usual_gains, ties_to_even}
use Rattle.state.specs.Scores.{no_score}
use Rattle.state.specs.States.{state_of, check}
use Rattle.state.specs.Switching.{switched}
use Rattle.state.specs.declared.State.{State}
use Rattle.forecasts.specs.Forecasts.{max_horizon, display_horizon, forecast_of}
use Rattle.traces.specs.Calls.{followed, cut, Call, Reading, Missing, Switch, Batch, Forecast, Forecasts, InPlaceReading, InPlaceMissing, InPlaceSwitch, InPlaceForecast, after}
use Rattle.traces.specs.Operations.{standing_of, on_state}
use Rattle.drift.specs.Exact.{parameters_of, Exact, exact_of, exact_forecast, level_is, forecast_is, expected_forecast, starting_from}
use Rattle.drift.specs.Limits.{distance, AtMost, Opening}
use Rattle.drift.specs.Pins.{standing, beside_from, compared}
use Rattle.damped.specs.Limits.{scaled_k, GainsWithinOne, OneStepBound, WithinOneStep, Contracting, OneStepClaim}

-- a state of a damped model without season: A, B, F, l and b. It is exact_of by 18 where B is above A
abbrev pub damped : ℕ → ℕ → ℕ → ℤ → ℤ → State
damped A B F l b = state_of (not (usual_gains A B 0)) 2 0 A B 0 F l b [] 0 0 no_score

-- of a list of calls, which keeps no state
abbrev pub ClaimOf : State → Exact → List Call → Type 0
ClaimOf s x calls = OneStepClaim (standing_of s) (starting_from (record { parameters = parameters_of s; exact = x })) (map on_state calls)

-- an opening state of which the limit is claimed
abbrev pub OpensContracting : State → Type 0
OpensContracting s = Opening s × Contracting (parameters_of s)

-- ---- claims that fail: a distance just above the limit
-- α = 1/2, β = 1/4, φ = 1/2: K = 1/4; l is 4 and L just below 0
abbrev pub four : State
four = damped 32768 16384 32768 (pos 4) (pos 0)

abbrev pub FourClaim : List Call → Type 0
FourClaim = ClaimOf four (standing (negsuc 0) 4 0 (pos 0))

pub record Refused : Type 0 where
  -- by each call that forecasts, direct and in place
  pub forecast : FourClaim (Forecast max_horizon 1 ∷ []) → ⊥
  pub forecasts : FourClaim (Forecasts max_horizon 2 (replicate 2 (pos 0)) ∷ []) → ⊥
  pub display : FourClaim (Forecast display_horizon 1 ∷ []) → ⊥
  pub display_all : FourClaim (Forecasts display_horizon 2 (replicate 2 (pos 0)) ∷ []) → ⊥
  pub in_place : FourClaim (InPlaceForecast (followed []) 1 (pos 0) ∷ []) → ⊥
  -- after a switch of the rounding rule and after a rejected call
  pub switched : FourClaim (InPlaceSwitch (followed []) ∷ Forecast max_horizon 1 ∷ []) → ⊥
  pub carried : FourClaim (Reading (pos 1000001) ∷ Forecast max_horizon 1 ∷ []) → ⊥
  -- α = β = 1/2, φ = 1/4: K = 3/8 + 1/16 = 7/16
  pub phi_quarter : ClaimOf (damped 32768 32768 16384 (pos 3) (pos 0)) (standing (pos (3 * 65536 ^ 2 - 16 * 65536 ^ 2 / 7 - 1)) 1 0 (pos 0)) (Forecast max_horizon 1 ∷ []) → ⊥
  -- α = 1/2, β = 1/8, φ = 3/4: K = 1/8 − 3/64 = 5/64
  pub phi_three_quarters : ClaimOf (damped 32768 8192 49152 (pos 13) (pos 0)) (standing (pos (13 * 65536 ^ 2 - 64 * 65536 ^ 2 / 5 - 1)) 1 0 (pos 0)) (Forecast max_horizon 1 ∷ []) → ⊥

-- ---- runs that come up to the limit
-- the one-step forecast after a list of calls, and the exact one
abbrev pub answer_after : State → List Call → ℤ
answer_after s calls = forecast_of (after s calls) 1

abbrev pub exact_at : State → List Call → ℕ → ℤ
exact_at s calls h = exact_forecast (parameters_of s) (beside_from s calls) h

-- 65536 ^ 3 × K times their distance, with n readings in the list
unfoldable pub apart : State → List Call → ℕ → ℕ
apart s calls n = nat_abs (scaled_k (parameters_of s)) * distance (2 * n + 1) (answer_after s calls) (exact_at s calls 1)

-- what that is at the limit
abbrev pub limit : ℕ → ℕ
limit n = 65536 ^ 3 * 65536 ^ (2 * n + 1)

-- n readings from y on, each higher by `rise`
unfoldable pub rising : ℕ → ℕ → ℕ → List Call
rising zero y rise = []
rising (suc n) y rise = Reading (pos y) ∷ rising n (y + rise) rise

-- α = 28909/65536, β = 1/65536, φ = 1/4: each R rounds up by half, and by either rule
abbrev pub creeping : State
creeping = damped 28909 1 16384 (pos 32678) (pos 358)

-- α = φ = 1/2, β = 0, and readings of 0: R leaves l at 2 and b at 1
abbrev pub resting : State
resting = damped 32768 0 32768 (pos 2) (pos 1)

pub record Attained : Type 0 where
  -- 1/K = 3.02.. but for a 10,000th after sixteen readings; with ties to even from the start, and with a switch after eight, it is met too
  pub near : 9999 * limit 16 ≤ 10000 * apart creeping (rising 16 268 118) 16
  pub near_even : 9999 * limit 16 ≤ 10000 * apart creeping (Switch ∷ rising 16 268 118) 16
  pub near_across : 9999 * limit 16 ≤ 10000 * apart creeping (rising 8 268 118 ++ (Switch ∷ rising 8 1212 118)) 16
  -- beyond 1/(2K), which is 2: at 3 but for a 10,000th
  pub beyond_half : 3 * 9999 * limit 16 ≤ 4 * 10000 * apart resting (replicate 16 (Reading (pos 0))) 16

-- ---- what the limit leaves out
-- the readings in a list
unfoldable pub readings : List ℤ → List Call
readings [] = []
readings (y ∷ ys) = Reading y ∷ readings ys

-- α = 1, φ = 1/2: K = 1/2. b is 1, and R leaves it there
abbrev pub gaps : State
gaps = damped 65536 0 32768 (pos 0) (pos 1)

-- α and β just below 1, φ = 1/5: K = 0.92, but α + φβ = 1.2
abbrev pub large_gains : State
large_gains = damped 65535 65535 13107 (pos 37443) (negsuc 23469)

abbrev pub large_gains_calls : List Call
large_gains_calls = readings (pos 589156 ∷ negsuc 112807 ∷ [])

-- α and β just below 1/2, φ just below 1: α + φβ is below 1, but K is just above −1/2
abbrev pub barely_damped : State
barely_damped = damped 32767 32767 65535 (pos 33680) (negsuc 33063)

abbrev pub barely_damped_calls : List Call
barely_damped_calls = readings (negsuc 721033 ∷ pos 589518 ∷ negsuc 147971 ∷ [])

-- α = 3/10, β just below 1, φ just below 1/2, exact_of by 18
abbrev pub swinging : State
swinging = damped 19661 65535 32767 (pos 32796) (pos 105)

abbrev pub swinging_calls : List Call
swinging_calls = readings (pos 33 ∷ pos 671743 ∷ pos 636979 ∷ pos 152360 ∷ pos 619929 ∷ pos 675651 ∷ negsuc 216649 ∷ negsuc 830400 ∷ negsuc 914136 ∷ negsuc 959054 ∷ [])

abbrev pub BoundAfter : State → List Call → ℕ → Type 0
BoundAfter s calls power = OneStepBound (parameters_of s) power (answer_after s calls) (exact_at s calls 1)

pub record Needed : Type 0 where
  -- that no reading is missing: after two, l + d is 3, and 7/8 in the exact recursion
  pub missing : OpensContracting gaps × (BoundAfter gaps (Missing ∷ Missing ∷ []) 3 → ⊥)
  pub unclaimed : WithinOneStep (parameters_of gaps) (answer_after gaps (Missing ∷ Missing ∷ [])) (expected_forecast (parameters_of gaps) (beside_from gaps (Missing ∷ Missing ∷ [])) 1)
  -- that α + φβ is at most 1
  pub gains : (check large_gains ≡ 0) × (pos 0 <ℤ scaled_k (parameters_of large_gains)) × (BoundAfter large_gains large_gains_calls 5 → ⊥)
  -- that K is above 0: where it is below, 1/|K| is no limit
  pub margin : (check barely_damped ≡ 0) × GainsWithinOne (parameters_of barely_damped) × (scaled_k (parameters_of barely_damped) <ℤ pos 0) × (BoundAfter barely_damped barely_damped_calls 7 → ⊥)
  -- 1 − 2φ: with 1 − φ in its place the limit would not hold
  pub twice : OpensContracting swinging × (AtMost (65536 ^ 3) ((65536 - 32767) * (19661 * 65536 + 32767 * 65535)) 21 (answer_after swinging swinging_calls) (exact_at swinging swinging_calls 1) → ⊥)
  -- horizon 1: the forecast for horizon 2 is further off
  pub horizon : OpensContracting creeping × (AtMost (65536 ^ 3) (nat_abs (scaled_k (parameters_of creeping))) 18 (forecast_of (after creeping (rising 8 268 118)) 2) (exact_at creeping (rising 8 268 118) 2) → ⊥)

-- ---- a run with every kind of call, from a count of 2^48 − 4: rejected are the reading 1,000,001 (13), the calls in place with a byte too few (4) and with one after the
-- snapshot (3), the first batch at its second reading (13), and the last missing reading, for the count is then full (14); the batch before it took a missing one
abbrev pub opening : State
opening = state_of false 2 0 20000 10001 0 40000 (pos 100) (pos 7) [] 0 281474976710652 no_score

-- the same with multiplicative errors, by bit 3 (document 02, W-205)
abbrev pub relative : State
relative = state_of false 10 0 20000 10001 0 40000 (pos 100) (pos 7) [] 0 281474976710652 no_score

unfoldable pub calls : List Call
calls =
    Forecast max_horizon 1
    ∷ Reading (pos 5)
    ∷ Forecasts max_horizon 2 (replicate 3 (pos 9))
    ∷ InPlaceReading (followed []) (pos 3)
    ∷ Reading (pos 1000001)
    ∷ InPlaceReading (cut 70) (pos 4)
    ∷ InPlaceMissing (followed (0x21 ∷ []))
    ∷ InPlaceSwitch (followed [])
    ∷ Forecasts display_horizon 1 (replicate 1 (pos 9))
    ∷ Batch (pos 1 ∷ pos 1000001 ∷ pos 2 ∷ []) (replicate 3 (pos 9))
    ∷ InPlaceForecast (followed []) 1 (pos 7)
    ∷ Batch (negsuc 2147483647 ∷ []) (replicate 1 (pos 9))
    ∷ Missing
    ∷ Forecast display_horizon 1
    ∷ []

pub record Shown : Type 0 where
  pub opens : OpensContracting opening
  -- with ties to even from the start
  pub opens_even : OpensContracting (switched opening)
  pub opens_relative : OpensContracting relative
  pub holds : ClaimOf opening (exact_of opening) calls
  pub rule_after : ties_to_even (after opening calls).model ≡ true
  pub compares : compared (parameters_of opening) opening (exact_of opening) calls
      ≡ (pos 104 ∷ [], forecast_is (pos 6833600) 1 1 0 0 ∷ [])
      ∷ ([], [])
      ∷ (
        pos 130585 ∷ pos 149209 ∷ [],
        forecast_is (pos 36756684698702745600) 1 3 0 0 ∷ forecast_is (pos (41998868460491808100 * 65536)) 2 4 0 0 ∷ [],
      )
      ∷ ([], [])
      ∷ ([], [])
      ∷ ([], [])
      ∷ ([], [])
      ∷ ([], [])
      ∷ (pos 175507 ∷ [], forecast_is (pos (3237545109043633001259100 * 65536)) 1 5 0 0 ∷ [])
      ∷ (pos 141947 ∷ [], level_is (pos (171603370477703455839457897600 * 65536)) 3 ∷ [])
      ∷ (pos 146824 ∷ [], forecast_is (pos (11632636433778696536063277860153600 * 65536)) 1 7 0 0 ∷ [])
      ∷ (pos 146824 ∷ [], level_is (pos (11632636433778696536063277860153600 * 65536)) 3 ∷ [])
      ∷ ([], [])
      ∷ (pos 149801 ∷ [], forecast_is (pos (777813979170197570354185581164626329600 * 65536)) 1 8 1 0 ∷ [])
      ∷ []

pub record Pins : Type 0 where
  pub refused : Refused
  pub attained : Attained
  pub needed : Needed
  pub shown : Shown
