-- What keeps demand 3 over kept states (document 02, W-209) from being read weaker or emptier than it is: claims that fail, and a run with what is compared. Each is computed.
use Rattle.std.specs.Prelude.{ℕ, ◌*◌, ◌^◌, List, [], ◌∷◌, ◌++◌, ◌≡◌, ℤ, pos, negsuc, replicate}
use Rattle.state.specs.declared.State.{State}
use Rattle.forecasts.specs.Forecasts.{max_horizon}
use Rattle.layout.specs.Bytes.{AreBytes}
use Rattle.saving.specs.Encoding.{encoded}
use Rattle.traces.specs.Calls.{Reading, Missing, Batch, Forecast, Forecasts}
use Rattle.traces.specs.Operations.{Standing, standing_of, Operation, on_state, Store, Restore, Open, operate}
use Rattle.drift.specs.Exact.{parameters_of, Exact, Expected, level_is, forecast_is, run_of, Beside, beside_of, beside_after, expected_by}
use Rattle.drift.specs.Limits.{Claim}
use Rattle.drift.specs.Pins.{seasonal, damped, plain, standing, OpensTrendless}

-- ---- l is 1 and L just below 0: a forecast is just above its limit 1/(2α) = 1, and n/2 is 2. What the slots are said to have kept, which no 50 put there, and the same state
-- exact_of anew are within it
abbrev pub one : State
one = plain (pos 1)

abbrev pub apart : Beside
apart = record { run = record { parameters = parameters_of one; exact = standing (negsuc 0) 4 0 (pos 0) }; kept = λ slot. run_of one }

abbrev pub ForecastAfter : List Operation → Type 0
ForecastAfter os = Claim (standing_of one) apart (os ++ (on_state (Forecast max_horizon 1) ∷ []))

pub record CheckpointsRefused : Type 0 where
  pub bytes : AreBytes (encoded one)
  pub few : AreBytes (0x10 ∷ [])
  -- a 50 moves nothing
  pub stored : ForecastAfter (Store 0 ∷ []) → ⊥
  -- a group empties no name: what was kept is brought back
  pub restored : ForecastAfter (Store 0 ∷ Open (encoded one) bytes ∷ Restore 0 ∷ []) → ⊥
  -- and the name still holds it
  pub again : ForecastAfter (Store 0 ∷ Restore 0 ∷ Open (encoded one) bytes ∷ Restore 0 ∷ []) → ⊥
  -- not what another name holds, nor what this one held before
  pub own_slot : ForecastAfter (Store 0 ∷ Open (encoded one) bytes ∷ Store 1 ∷ Restore 0 ∷ []) → ⊥
  pub replaced : ForecastAfter (Store 1 ∷ Open (encoded one) bytes ∷ Store 0 ∷ Restore 1 ∷ Store 0 ∷ Open (encoded one) bytes ∷ Restore 0 ∷ []) → ⊥
  -- after a rejected one the exact recursion stands where it stood: a name that holds nothing, one above 3, bytes that end inside a group
  pub nothing_held : ForecastAfter (Restore 2 ∷ []) → ⊥
  pub no_name : ForecastAfter (Store 4 ∷ Restore 4 ∷ []) → ⊥
  pub rejected : ForecastAfter (Open (0x10 ∷ []) few ∷ []) → ⊥

-- ---- a run: two readings are kept as 0; a reading and a missing one follow, and the group of a damped room; one reading there is kept as 1, and two missing ones follow.
-- 0 is brought back, 3 holds nothing, and 1 is brought back. No reading that came after a 50 counts after its 51
abbrev pub room : State
room = seasonal 2 16384 32768 (pos 0) (pos 65536 ∷ negsuc 65535 ∷ [])

abbrev pub damped_room : State
damped_room = damped 32768 32768 (pos 0) (pos 65536)

unfoldable pub holiday : AreBytes (encoded damped_room) → List Operation
holiday h =
    on_state (Reading (pos 5))
    ∷ on_state (Reading (pos 3))
    ∷ Store 0
    ∷ on_state (Reading (pos 7))
    ∷ on_state Missing
    ∷ on_state (Forecast max_horizon 1)
    ∷ Open (encoded damped_room) h
    ∷ on_state (Reading (pos 2))
    ∷ Store 1
    ∷ on_state Missing
    ∷ on_state Missing
    ∷ on_state (Forecast max_horizon 1)
    ∷ Restore 0
    ∷ []

unfoldable pub afterwards : List Operation
afterwards =
    on_state (Forecasts max_horizon 2 (replicate 2 (pos 9)))
    ∷ Restore 3
    ∷ on_state (Batch (pos 4 ∷ []) (replicate 1 (pos 9)))
    ∷ Restore 1
    ∷ on_state (Forecast max_horizon 1)
    ∷ []

-- what a list compares, operation by operation; and where the exact recursion stands after it
unfoldable pub compared_over : Standing → Beside → List Operation → List (List ℤ × List Expected)
compared_over a b [] = []
compared_over a b (o ∷ os) =
    let r = operate a o in
    (r.numbers, expected_by b.run r.notice) ∷ compared_over r.standing (beside_after b r.notice) os

unfoldable pub beside_over : Standing → Beside → List Operation → Beside
beside_over a b [] = b
beside_over a b (o ∷ os) = let r = operate a o in beside_over r.standing (beside_after b r.notice) os

-- its readings, missing ones and count of steps
pub record Counts (x : Exact) (n missed count : ℕ) : Type 0 where
  pub readings : x.n ≡ n
  pub gaps : x.missed ≡ missed
  pub steps : x.count ≡ count

pub record CheckpointsShown : Type 0 where
  pub opens : OpensTrendless room
  pub bytes : AreBytes (encoded damped_room)
  -- as the first 50 had them, and not one reading, two missing ones and three steps
  pub counts : Counts (beside_over (standing_of room) (beside_of room) (holiday bytes)).run.exact 2 0 2
  pub compares : compared_over (standing_of room) (beside_of room) (holiday bytes ++ afterwards)
      ≡ ([], [])
      ∷ ([], [])
      ∷ ([], [])
      ∷ ([], [])
      ∷ ([], [])
      ∷ (pos 421888 ∷ [], forecast_is (pos (421888 * 65536 ^ 7)) 1 7 1 0 ∷ [])
      ∷ ([], [])
      ∷ ([], [])
      ∷ ([], [])
      ∷ ([], [])
      ∷ ([], [])
      ∷ (pos 110592 ∷ [], forecast_is (pos (110592 * 65536 ^ 5)) 1 5 2 0 ∷ [])
      ∷ ([], [])
      ∷ (pos 311296 ∷ pos 147456 ∷ [], forecast_is (pos (311296 * 65536 ^ 5)) 1 5 0 0 ∷ forecast_is (pos (147456 * 65536 ^ 6)) 2 6 0 0 ∷ [])
      ∷ ([], [])
      ∷ (pos 102400 ∷ [], level_is (pos (102400 * 65536 ^ 6)) 3 ∷ [])
      ∷ ([], [])
      ∷ (pos 98304 ∷ [], forecast_is (pos (98304 * 65536 ^ 3)) 1 3 0 0 ∷ [])
      ∷ []

pub record CheckpointPins : Type 0 where
  pub refused : CheckpointsRefused
  pub shown : CheckpointsShown
  pub holds : Claim (standing_of room) (beside_of room) (holiday shown.bytes ++ afterwards)
