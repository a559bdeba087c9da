-- Computed: the order of the checks where a state has two faults, and what the switch of the rounding rule leaves. The station cases have R and the limits of each check.
use Rattle.std.specs.Prelude.{ℕ, ◌≡◌, false, [], ℤ, pos}
use Rattle.state.specs.Scores.{score_of}
use Rattle.state.specs.States.{state_of, no_state, check}
use Rattle.state.specs.Switching.{switch_to_even}
use Rattle.state.specs.declared.State.{State}

-- model 0 with m, A, l, p, a count and so many readings
abbrev pub plain : ℕ → ℕ → ℤ → ℕ → ℕ → State
plain m A l count readings = state_of false 0 m A 0 0 0 l (pos 0) [] 0 count (score_of readings 0 0)

pub record OrderPins : Type 0 where
  -- 6 before 7, 7 before 9, 9 before 10, 10 before 17
  pub period_first : check (plain 1 65537 (pos 0) 0 0) ≡ 6
  pub parameter_next : check (plain 0 65537 (pos 1099511627777) 0 0) ≡ 7
  pub value_next : check (plain 0 0 (pos 1099511627777) 281474976710657 0) ≡ 9
  pub position_next : check (plain 0 0 (pos 0) 281474976710657 281474976710658) ≡ 10

pub record SwitchPins : Type 0 where
  pub level_kept : (switch_to_even (plain 0 0 (pos 1) 0 0)).state.level ≡ pos 1
  pub rule_set : (switch_to_even (plain 0 0 (pos 1) 0 0)).state.model ≡ 64
  pub rejected_kept : (switch_to_even no_state).state.model ≡ 255

pub record Pins : Type 0 where
  pub order : OrderPins
  pub switch : SwitchPins
