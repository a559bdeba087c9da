-- Computed: a missing reading of a damped and of a seasonal model, the place of the state's checks, and what the sentences of document 02, W-208, say of a reading, a missing
-- reading and a batch, on a season whose value at each place is as many reading units as the place's number.
use Rattle.std.specs.Prelude.{ℕ, false, List, [], ◌∷◌, ◌≡◌, ℤ, pos, ◌*ℤ◌, get_or, Ok}
use Rattle.calendars.specs.Calendars.{Calendar, calendar_of}
use Rattle.state.specs.Scores.{no_score}
use Rattle.state.specs.States.{state_of}
use Rattle.state.specs.declared.State.{State}
use Rattle.ets.specs.Steps.{step, missing}
use Rattle.ets.specs.Batches.{batch, batch_levels}
use Rattle.ets.specs.Calendars.{step_on, missing_on, batch_on}
use Rattle.state.specs.Rejections.{rejects}

-- so many reading units
abbrev pub units : ℕ → ℤ
units n = pos 65536 *ℤ pos n

abbrev places : List ℤ
places =
    units 0 ∷ units 1 ∷ units 2 ∷ units 3 ∷ units 4 ∷ units 5 ∷ units 6 ∷ units 7 ∷ units 8 ∷ units 9 ∷ units 10 ∷ units 11
    ∷ units 12 ∷ units 13 ∷ units 14 ∷ units 15 ∷ units 16 ∷ units 17 ∷ units 18 ∷ units 19 ∷ units 20 ∷ units 21 ∷ units 22 ∷ units 23 ∷ []

-- at place p, after n steps; m is 24, α and γ are a half, the level is 0
abbrev pub hourly : ℕ → ℕ → State
hourly p n = state_of false 4 24 32768 0 32768 0 (pos 0) (pos 0) places p n no_score

abbrev pub skips : List ℕ → Calendar
skips ns = calendar_of ns []

abbrev pub repeats : List ℕ → Calendar
repeats ns = calendar_of [] ns

-- ---- document 02, W-202: T4's model, whose trend of 3 is damped to 2, and a season
abbrev pub damped : State
damped = state_of false 2 0 0 0 0 32768 (pos 0) (pos 3) [] 0 0 no_score

pub record GapPins : Type 0 where
  pub level : (missing damped).state.level ≡ pos 2
  pub trend : (missing damped).state.trend ≡ pos 2
  pub season : (missing (hourly 3 0)).state.seasonal ≡ (hourly 3 0).seasonal

-- ---- a state's own rejection comes before 13
abbrev pub beyond : State
beyond = state_of false 0 0 0 0 0 0 (pos 1099511627777) (pos 0) [] 0 0 no_score

pub record OrderPins : Type 0 where
  pub state_first : (step beyond (pos 1000001)).residual ≡ rejects 9

-- ---- a step: by the place that it uses a reading of as many units has the residual 0
pub record StepPins : Type 0 where
  -- place 2 is due at count 100: 3 is used, and p is left at 4
  pub skipped : (step_on (skips (100 ∷ [])) (hourly 2 100) (pos 3)).residual ≡ Ok (pos 0)
  pub skipped_to : (step_on (skips (100 ∷ [])) (hourly 2 100) (pos 3)).state.index ≡ 4
  -- a reading 2 units above what place 3 has moves its value by a half of them, and leaves place 2
  pub skipped_at : get_or (step_on (skips (100 ∷ [])) (hourly 2 100) (pos 5)).state.seasonal 3 (pos 0) ≡ units 4
  pub skipped_over : get_or (step_on (skips (100 ∷ [])) (hourly 2 100) (pos 5)).state.seasonal 2 (pos 0) ≡ units 2
  -- 2 is used, and p is left at 2
  pub repeated : (step_on (repeats (100 ∷ [])) (hourly 2 100) (pos 2)).residual ≡ Ok (pos 0)
  pub repeated_to : (step_on (repeats (100 ∷ [])) (hourly 2 100) (pos 2)).state.index ≡ 2
  -- a listed count has no effect where place 2 isn't due, and it is the count before the step
  pub not_due : (step_on (skips (100 ∷ [])) (hourly 5 100) (pos 5)).state.index ≡ 6
  pub before_the_step : (step_on (skips (101 ∷ [])) (hourly 2 100) (pos 2)).state.index ≡ 3
  -- a missing reading goes the same way
  pub gap_skips : (missing_on (skips (100 ∷ [])) (hourly 2 100)).state.index ≡ 4
  pub gap_repeats : (missing_on (repeats (100 ∷ [])) (hourly 2 100)).state.index ≡ 2

-- ---- 20, and its place in the order
pub record RejectionPins : Type 0 where
  pub equal_counts : (step_on (skips (7 ∷ 7 ∷ [])) (hourly 0 0) (pos 1000001)).residual ≡ rejects 20
  pub falling : (step_on (repeats (7 ∷ 6 ∷ [])) (hourly 0 0) (pos 0)).residual ≡ rejects 20
  pub in_both : (step_on (calendar_of (7 ∷ []) (7 ∷ [])) (hourly 0 0) (pos 0)).residual ≡ rejects 20
  pub then_13 : (step_on (skips (7 ∷ 8 ∷ [])) (hourly 0 0) (pos 1000001)).residual ≡ rejects 13
  pub before_14 : (missing_on (skips (7 ∷ 7 ∷ [])) (hourly 0 281474976710656)).outcome ≡ rejects 20
  -- also of a batch of no readings, after 12
  pub no_readings : (batch_on (skips (7 ∷ 7 ∷ [])) (hourly 0 0) [] 0).outcome ≡ rejects 20
  pub after_12 : (batch_on (skips (7 ∷ 7 ∷ [])) (hourly 0 0) (pos 0 ∷ []) 0).outcome ≡ rejects 12
  -- m is not 24: no season
  pub no_season : (step_on (skips []) (state_of false 0 0 32768 0 0 0 (pos 0) (pos 0) [] 0 0 no_score) (pos 0)).residual ≡ rejects 20

-- ---- a batch: the level after each reading, and after a reading that halts it no cell more
abbrev pub halving : State
halving = state_of false 0 0 32768 0 0 0 (pos 0) (pos 0) [] 0 0 no_score

pub record BatchPins : Type 0 where
  pub levels : batch_levels halving (pos 10 ∷ pos 20 ∷ []) (pos 7 ∷ pos 7 ∷ pos 7 ∷ []) ≡ pos 327680 ∷ pos 819200 ∷ pos 7 ∷ []
  pub halted : batch_levels halving (pos 10 ∷ pos 1000001 ∷ pos 20 ∷ []) (pos 7 ∷ pos 7 ∷ pos 7 ∷ []) ≡ pos 327680 ∷ pos 7 ∷ pos 7 ∷ []
  pub taken : (batch halving (pos 10 ∷ pos 1000001 ∷ pos 20 ∷ []) 3).taken ≡ 1
  pub short : batch_levels halving (pos 10 ∷ pos 20 ∷ []) (pos 7 ∷ []) ≡ pos 7 ∷ []

pub record Pins : Type 0 where
  pub gaps : GapPins
  pub order : OrderPins
  pub batches : BatchPins
  pub steps : StepPins
  pub rejections : RejectionPins
