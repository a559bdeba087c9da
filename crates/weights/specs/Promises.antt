-- What holds of the weight and its groups (document 02, W-210), and of the answers that have a weight.
use Rattle.std.specs.Prelude.{ℕ, ◌+◌, ◌≤◌, ◌≡◌, false, List, [], pos, length, take, Result, Err}
use Rattle.integers.specs.Totals.{total}
use Rattle.state.specs.Rejections.{number, IsCode}
use Rattle.state.specs.Scores.{no_score}
use Rattle.state.specs.States.{state_of}
use Rattle.state.specs.declared.Rejection.{Rejection}
use Rattle.state.specs.declared.State.{State}
use Rattle.weights.specs.Weights.{weight_of, weight_answer, weight_code, weight_value, variance_answer, variance_code, class_one_code, weight, variance, AnswerCases}
use Rattle.weights.specs.Groups.{group_count, groups, weight_groups_code, weight_group_cells}

-- 2^32 and the groups
abbrev pub grouped_weight : State → ℕ → ℕ
grouped_weight s h = 4294967296 + total (groups s h)

-- computed: a season of length 0, which 6 rejects, has no group, and C of j = 1 is in none
abbrev pub ungrouped : State
ungrouped = state_of false 4 0 1 0 0 0 (pos 0) (pos 0) [] 0 0 no_score

pub record Needed : Type 0 where
  pub grouped : grouped_weight ungrouped 2 ≡ 4294967296
  pub whole : weight_of ungrouped 2 ≡ 4294967297

-- for every horizon, season length and model: of the definitions wherever there is a group, and of what the two calls answer
pub record GroupLaws : Type 0 where
  pub weight_is : (s : State) (h : ℕ) → 1 ≤ group_count s → grouped_weight s h ≡ weight_of s h
  pub answers : (s : State) (h : ℕ) (cells : List ℕ) → weight_groups_code s h (length cells) ≡ 0 → weight s h ≡ weight_answer 0 (4294967296 + total (take (group_count s) (weight_group_cells s h cells)))
  pub needed : Needed

-- each case of the answers is told by its number and its values: of every number that is a refusal's, or 0, of every refusal, of every weight, and of every call
pub record Cases : Type 0 where
  pub codes : (n v : ℕ) → IsCode n → AnswerCases n v
  pub accepted : (v : ℕ) → AnswerCases 0 v
  pub refusals : (r : Rejection) (v : ℕ) → AnswerCases (number r) v
  pub refused_weight : (r : Rejection) (v : ℕ) → weight_answer (number r) v ≡ Err r
  pub refused_variance : (r : Rejection) (v : ℕ) → variance_answer (number r) v ≡ Err r
  pub weights : (a : Result ℕ Rejection) (old : ℕ) → weight_answer (weight_code a) (weight_value a old) ≡ a
  pub weight_calls : (s : State) (h : ℕ) → weight_code (weight s h) ≡ class_one_code s h
  pub variance_calls : (s : State) (h sigma2 : ℕ) → variance_code (variance s h sigma2) ≡ class_one_code s h
