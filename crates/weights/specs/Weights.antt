-- Document 01, "Forecast and variance": the weights (document 000, Class 1) and the variance.
use Rattle.std.specs.Prelude.{ℕ, zero, suc, ◌+◌, ◌-◌, ◌*◌, ◌/◌, ◌%◌, ◌≡◌, Bool, false, cond, ◌&&◌, eqb, Result, Ok, Err}
use Rattle.state.specs.Fixed.{share_nat, word_size}
use Rattle.state.specs.Rejections.{unless, ◌then◌, accepting, out_of_place, bad_horizon, rejects, number}
use Rattle.state.specs.States.{check}
use Rattle.models.specs.Models.{trend_of, has_season, ties_to_even, errors_are}
use Rattle.state.specs.declared.State.{State}
use Rattle.forecasts.specs.Forecasts.{max_horizon, horizon_ok}
use Rattle.weights.specs.declared.Variance.{Variance}
use Rattle.state.specs.declared.Rejection.{Rejection}

-- P is 0 before j = 1 and at each j becomes R(F × (P + 65536)), by the rounding rule
unfoldable pub damping_sum : Bool → ℕ → ℕ → ℕ
damping_sum even F zero = 0
damping_sum even F (suc j) = share_nat even F (damping_sum even F j + 65536)

-- the trend term: 0 without trend, B × j when straight, R(B × P) when damped
unfoldable pub trend_term : State → ℕ → ℕ
trend_term s j =
    let even = ties_to_even s.model in
    cond (eqb (trend_of s.model) 0) 0
    (cond (eqb (trend_of s.model) 1) (s.beta * j) (share_nat even s.beta (damping_sum even s.phi j)))

-- G where m divides j; without season G is left out
unfoldable pub season_term : State → ℕ → ℕ
season_term s j = cond (has_season s.model && eqb (j % s.period) 0) s.gamma 0

-- the j-th coefficient C
unfoldable pub coefficient : State → ℕ → ℕ
coefficient s j = s.alpha + trend_term s j + season_term s j

-- the sum of C × C for j from 1 to n
unfoldable pub squares : State → ℕ → ℕ
squares s zero = 0
squares s (suc n) = squares s n + coefficient s (suc n) * coefficient s (suc n)

-- the weight of h is 2^32 plus the sum of C × C for j from 1 to h − 1
unfoldable pub weight_of : State → ℕ → ℕ
weight_of s h = 4294967296 + squares s (h - 1)

-- each case of the answers from the paper's number, 0 for "accepted", and its values; the variance as a high and a low 64-bit word
abbrev pub weight_answer : ℕ → ℕ → Result ℕ Rejection
weight_answer n w = accepting n (Ok w) rejects

abbrev pub variance_answer : ℕ → ℕ → Result Variance Rejection
variance_answer n v =
    accepting n (Ok (record { high = v / word_size; low = v % word_size })) rejects

-- and back: the number of each case, and the values of an accepted one
abbrev pub weight_code : Result ℕ Rejection → ℕ
weight_code (Ok w) = 0
weight_code (Err r) = number r

abbrev pub weight_value : Result ℕ Rejection → ℕ → ℕ
weight_value (Ok w) old = w
weight_value (Err r) old = old

abbrev pub variance_code : Result Variance Rejection → ℕ
variance_code (Ok v) = 0
variance_code (Err r) = number r

abbrev pub variance_value : Result Variance Rejection → ℕ
variance_value (Ok v) = v.high * word_size + v.low
variance_value (Err r) = 0

-- each case is told by its number and its values
pub record AnswerCases (n v : ℕ) : Type 0 where
  pub code_of_weight : weight_code (weight_answer n v) ≡ n
  pub value_of_weight : n ≡ 0 → (old : ℕ) → weight_value (weight_answer n v) old ≡ v
  pub code_of_variance : variance_code (variance_answer n v) ≡ n
  pub value_of_variance : n ≡ 0 → variance_value (variance_answer n v) ≡ v

-- what rejects a call for one kind of errors, or 0: the state's checks, 3 where the model has the other kind (document 02, W-205), then 11
unfoldable pub errors_code : Bool → State → ℕ → ℕ
errors_code relative s h =
    check s
    then unless (errors_are relative s.model) out_of_place
    then unless (horizon_ok max_horizon h) bad_horizon

-- Class 1 is for additive errors
abbrev pub class_one_code : State → ℕ → ℕ
class_one_code = errors_code false

-- the calls
unfoldable pub weight : State → ℕ → Result ℕ Rejection
weight s h = weight_answer (class_one_code s h) (weight_of s h)

-- the variance is the weight times σ², exact
unfoldable pub variance : State → ℕ → ℕ → Result Variance Rejection
variance s h sigma2 = variance_answer (class_one_code s h) (weight_of s h * sigma2)
