-- What holds of the variance of multiplicative errors (document 02, W-205): the cases of its answer, its doubles, and its divisions.
use Rattle.std.specs.Prelude.{ℕ, ◌≤◌, ◌<◌, ◌≡◌, Bool, true, false, not, T, ℤ, pos, negsuc, nat_abs, Float, Result, Ok, Err}
use Rattle.std.specs.Float.{binary64}
use Rattle.std.specs.Float.Ieee.{mul, of_int, of_bits, is_nan}
use Rattle.std.specs.Float.Ieee.Exact.{HasValue}
use Rattle.std.specs.Float.Ieee.Scale.{finite}
use Rattle.state.specs.Rejections.{number, IsCode}
use Rattle.state.specs.States.{check}
use Rattle.state.specs.declared.Rejection.{Rejection}
use Rattle.state.specs.declared.State.{State}
use Rattle.forecasts.specs.Forecasts.{max_horizon, forecast_of}
use Rattle.weights.specs.Weights.{coefficient}
use Rattle.relative_errors.specs.Relative.{fixed_scale, from_fixed, squared_mean, squared_coefficient, theta_in, sum_to, thetas, variance_of, relative_code, relative_answer, answer_code, answer_value, relative_variance}

-- ---- each case of the answer is told by its number and its value
pub record AnswerCases (n : ℕ) (v : Float) : Type 0 where
  pub code : answer_code (relative_answer n v) ≡ n
  pub value : n ≡ 0 → (old : Float) → answer_value (relative_answer n v) old ≡ v

-- of every number that is a refusal's, or 0, of every refusal, of every answer, and of every call
pub record Cases : Type 0 where
  pub codes : (n : ℕ) (v : Float) → IsCode n → AnswerCases n v
  pub accepted : (v : Float) → AnswerCases 0 v
  pub refusals : (r : Rejection) (v : Float) → AnswerCases (number r) v
  pub refused : (r : Rejection) (v : Float) → relative_answer (number r) v ≡ Err r
  pub answers : (a : Result Float Rejection) (old : Float) → relative_answer (answer_code a) (answer_value a old) ≡ a
  pub calls : (s : State) (h bits room : ℕ) → answer_code (relative_variance s h bits room) ≡ relative_code s h bits room

-- ---- of an accepted answer x, each θ, each S up to each j, and x itself are finite numbers: none is a NaN
pub record Finite (s : State) (h : ℕ) (σ² x : Float) : Type 0 where
  pub is : x ≡ variance_of (squared_mean s) (squared_coefficient s) σ² h
  pub answer : T (finite x)
  pub no_nan : T (not (is_nan x))
  pub theta : (k : ℕ) → 1 ≤ k → k ≤ h → T (finite (theta_in (thetas (squared_mean s) (squared_coefficient s) σ² h) k))
  pub sum : (k j : ℕ) → k ≤ h → j < k → T (finite (sum_to (squared_coefficient s) (thetas (squared_mean s) (squared_coefficient s) σ² h) k j))

abbrev pub AcceptedIsFinite : Type 0
AcceptedIsFinite =
    (s : State) (h bits room : ℕ) (x : Float)
    → relative_variance s h bits room ≡ Ok x → Finite s h (of_bits binary64 bits) x

-- ---- the division by 65536 loses nothing
abbrev pub is_negative : ℤ → Bool
is_negative (pos n) = false
is_negative (negsuc n) = true

-- the double of n is n, divided by 65536 it is n / 65536, each exactly, and times 65536 it is n again
pub record Kept (n : ℤ) : Type 0 where
  pub whole : HasValue (of_int binary64 n) (is_negative n) (nat_abs n) 1
  pub divided : HasValue (from_fixed n) (is_negative n) (nat_abs n) 65536
  pub back : mul binary64 (from_fixed n) fixed_scale ≡ of_int binary64 n

-- of each n up to 2^53 in size, and so of each forecast and each C that a variance is made of
pub record NothingLost : Type 0 where
  pub each : (n : ℤ) → nat_abs n ≤ 9007199254740992 → Kept n
  pub means : (s : State) → check s ≡ 0 → (h : ℕ) → 1 ≤ h → h ≤ max_horizon → Kept (forecast_of s h)
  pub coefficients : (s : State) → check s ≡ 0 → (j : ℕ) → j ≤ max_horizon → Kept (pos (coefficient s j))
