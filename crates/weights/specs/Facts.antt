-- What a loop over j holds when it comes by the coefficient of j: the facts that private functions require.
use Rattle.std.specs.Prelude.{ℕ, ◌*◌, ◌%◌, ◌≤◌, ◌≡◌, Bool, cond, ltb}
use Rattle.models.specs.Models.{trend_of, ties_to_even}
use Rattle.state.specs.declared.State.{State}
use Rattle.weights.specs.Weights.{damping_sum}
use Rattle.weights.specs.Groups.{group_count}

-- the rule and the trend of the model, P where the trend is damped, and the remainder of j
pub record At (s : State) (even : Bool) (trend j p k : ℕ) : Type 0 where
  pub most : j ≤ 512
  pub small : p ≤ 65536 * j
  pub rule : even ≡ ties_to_even s.model
  pub trend_is : trend ≡ trend_of s.model
  pub damping : p ≡ cond (ltb trend 2) 0 (damping_sum (ties_to_even s.model) s.phi j)
  pub remainder : k ≡ j % group_count s
