-- Document 02, W-211: a state is switched to rounding with ties to even, and what the switch leaves.
use Rattle.std.specs.Prelude.{ℕ, ◌≡◌, true}
use Rattle.models.specs.Models.{has_trend, has_season, has_relative_errors, ties_to_even, to_even}
use Rattle.state.specs.Rejections.{accepting, outcome}
use Rattle.state.specs.States.{with_model, check}
use Rattle.state.specs.declared.State.{State}
use Rattle.state.specs.declared.Switched.{Switched}

-- bit 6 of the model byte is set, and all else is kept
abbrev pub switched : State → State
switched s = with_model (to_even s.model) s

-- the call, rejected by the state's checks
unfoldable pub switch_to_even : State → Switched
switch_to_even s =
    record { state = accepting (check s) (switched s) (λ (n : ℕ). s); outcome = outcome (check s) }

pub record SwitchLaw (s : State) : Type 0 where
  -- ties go to even from then on, in a model with the same trend, season and kind of errors
  pub rule : ties_to_even (switched s).model ≡ true
  pub trend : has_trend (switched s).model ≡ has_trend s.model
  pub season : has_season (switched s).model ≡ has_season s.model
  pub errors : has_relative_errors (switched s).model ≡ has_relative_errors s.model
  -- what rejects it is what rejected it before
  pub checks : check (switched s) ≡ check s
  -- a second switch changes nothing
  pub again : switch_to_even (switch_to_even s).state ≡ switch_to_even s

abbrev pub SwitchLaws : Type 0
SwitchLaws = (s : State) → SwitchLaw s
