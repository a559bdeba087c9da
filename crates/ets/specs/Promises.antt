-- Document 02, W-202: what a missing reading is, promised of the definitions.
use Rattle.std.specs.Prelude.{ℕ, ◌+◌, ◌≡◌, false, pos}
use Rattle.state.specs.Rejections.{◌then◌, accepting, outcome}
use Rattle.models.specs.Models.{has_trend}
use Rattle.state.specs.States.{moved, check}
use Rattle.state.specs.declared.State.{State}
use Rattle.calendars.specs.Turns.{next_index}
use Rattle.ets.specs.Steps.{corrected, after_missing, count_code, missing_code, missing}
use Rattle.ets.specs.declared.Missed.{Missed}

-- a missing reading as document 01 has it: it leaves l, b and s as they were, moves p and adds one to the count; after the state's checks 14 alone rejects it
abbrev pub held_code : State → ℕ
held_code s = check s then count_code s.count

abbrev pub held : State → State
held s = moved s s.level s.trend s.seasonal (next_index s.period s.index) (s.count + 1) s.score

abbrev pub held_missing : State → Missed
held_missing s = record { state = accepting (held_code s) (held s) (λ _. s); outcome = outcome (held_code s) }

-- what every call with a missing reading is made of, and the call itself, for every state handed in, one that its checks reject too
pub record Trendless (s : State) : Type 0 where
  pub code : missing_code s ≡ held_code s
  pub after : missing_code s ≡ 0 → after_missing s ≡ held s
  pub call : missing s ≡ held_missing s

pub record MissingLaws : Type 0 where
  -- trendless models keep it
  pub trendless : (s : State) → has_trend s.model ≡ false → Trendless s
  -- of every model it is the step with residual 0 that leaves the score, on a state that passes
  pub step : (s : State) → check s ≡ 0 → after_missing s ≡ corrected s (pos 0) s.score
