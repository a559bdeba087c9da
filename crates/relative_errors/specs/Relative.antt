-- Document 02, W-205: the variance of a forecast whose errors are multiplicative (document 000, Class 2), in doubles, each operation rounded once in the order written.
use Rattle.std.specs.Prelude.{ℕ, zero, suc, ◌-◌, Bool, true, ◌&&◌, List, [], ◌∷◌, ◌++◌, leb, ℤ, pos, length, get_or, drop, Float, Result, Ok, Err}
use Rattle.std.specs.Float.{nan, binary64}
use Rattle.std.specs.Float.Ieee.{add, sub, mul, div, of_bits, of_int}
use Rattle.std.specs.Float.Ieee.Scale.{finite}
use Rattle.state.specs.Rejections.{unless, ◌then◌, accepting, short_buffer, bad_sigma2, not_finite, rejects, number}
use Rattle.state.specs.declared.State.{State}
use Rattle.forecasts.specs.Forecasts.{forecast_of}
use Rattle.weights.specs.Weights.{coefficient, errors_code}
use Rattle.state.specs.declared.Rejection.{Rejection}

-- 0.0, 1.0 and 65536.0 by their bits
abbrev pub nought : Float
nought = of_bits binary64 0

abbrev pub one_bits : ℕ
one_bits = 0x3ff0_0000_0000_0000

abbrev pub one : Float
one = of_bits binary64 one_bits

abbrev pub fixed_scale : Float
fixed_scale = of_bits binary64 0x40f0_0000_0000_0000

-- a forecast or a C divided by 65536 in doubles, which gives μ or c
unfoldable pub from_fixed : ℤ → Float
from_fixed n = div binary64 (of_int binary64 n) fixed_scale

-- μ × μ or c × c
unfoldable pub squared : ℤ → Float
squared n = mul binary64 (from_fixed n) (from_fixed n)

-- μ × μ of the horizon h
unfoldable pub squared_mean : State → ℕ → Float
squared_mean s h = squared (forecast_of s h)

-- c × c of j
unfoldable pub squared_coefficient : State → ℕ → Float
squared_coefficient s j = squared (pos (coefficient s j))

-- θ of k in a list of θ of 1, 2, ..
abbrev pub theta_in : List Float → ℕ → Float
theta_in θs k = get_or θs (k - 1) nan

-- S of the horizon h up to j: it starts at 0 and adds (c × c) × θ, with c of j and θ of h − j, for j rising from 1
unfoldable pub sum_to : (ℕ → Float) → List Float → ℕ → ℕ → Float
sum_to c² θs h zero = nought
sum_to c² θs h (suc j) = add binary64 (sum_to c² θs h j) (mul binary64 (c² (suc j)) (theta_in θs (h - suc j)))

-- the θ after those of 1 to n, which is θ of n + 1: θ of 1 is μ × μ, θ of h is μ × μ + σ² × S with j up to h − 1
unfoldable pub next_theta : (ℕ → Float) → (ℕ → Float) → Float → List Float → ℕ → Float
next_theta μ² c² σ² θs zero = μ² 1
next_theta μ² c² σ² θs (suc n) = add binary64 (μ² (suc (suc n))) (mul binary64 σ² (sum_to c² θs (suc (suc n)) (suc n)))

-- θ of 1 to n
unfoldable pub thetas : (ℕ → Float) → (ℕ → Float) → Float → ℕ → List Float
thetas μ² c² σ² zero = []
thetas μ² c² σ² (suc n) = thetas μ² c² σ² n ++ (next_theta μ² c² σ² (thetas μ² c² σ² n) n ∷ [])

-- (1 + σ²) × θ − μ × μ
unfoldable pub variance_of : (ℕ → Float) → (ℕ → Float) → Float → ℕ → Float
variance_of μ² c² σ² h =
    sub binary64 (mul binary64 (add binary64 one σ²) (theta_in (thetas μ² c² σ² h) h)) (μ² h)

-- ---- what is finite

-- S is, up to each j
unfoldable pub sums_finite : (ℕ → Float) → List Float → ℕ → ℕ → Bool
sums_finite c² θs h zero = true
sums_finite c² θs h (suc j) = sums_finite c² θs h j && finite (sum_to c² θs h (suc j))

-- each θ of 1 to n is, and its S
unfoldable pub thetas_finite : (ℕ → Float) → (ℕ → Float) → Float → ℕ → Bool
thetas_finite μ² c² σ² zero = true
thetas_finite μ² c² σ² (suc n) =
    thetas_finite μ² c² σ² n
    && (sums_finite c² (thetas μ² c² σ² n) (suc n) n && finite (next_theta μ² c² σ² (thetas μ² c² σ² n) n))

-- and so is the answer
unfoldable pub all_finite : (ℕ → Float) → (ℕ → Float) → Float → ℕ → Bool
all_finite μ² c² σ² h = thetas_finite μ² c² σ² h && finite (variance_of μ² c² σ² h)

-- ---- the call: a state, a horizon, the bits of σ², and so many doubles lent

-- what rejects it before anything is computed: as a call for multiplicative errors, then 18, then 12
unfoldable pub input_code : State → ℕ → ℕ → ℕ → ℕ
input_code s h bits room =
    errors_code true s h
    then unless (leb bits one_bits) bad_sigma2
    then unless (leb h room) short_buffer

-- and 19, last
unfoldable pub relative_code : State → ℕ → ℕ → ℕ → ℕ
relative_code s h bits room =
    input_code s h bits room
    then unless (all_finite (squared_mean s) (squared_coefficient s) (of_bits binary64 bits) h) not_finite

-- each case of the answer from the paper's number, 0 for "accepted", and its value
abbrev pub relative_answer : ℕ → Float → Result Float Rejection
relative_answer n v = accepting n (Ok v) rejects

-- and back: the number of each case, and the value of an accepted one
abbrev pub answer_code : Result Float Rejection → ℕ
answer_code (Ok v) = 0
answer_code (Err r) = number r

abbrev pub answer_value : Result Float Rejection → Float → Float
answer_value (Ok v) old = v
answer_value (Err r) old = old

unfoldable pub relative_variance : State → ℕ → ℕ → ℕ → Result Float Rejection
relative_variance s h bits room =
    relative_answer (relative_code s h bits room)
    (variance_of (squared_mean s) (squared_coefficient s) (of_bits binary64 bits) h)

-- the first h doubles get θ of 1 to h, later ones stay; all stay where it is rejected
unfoldable pub relative_cells : State → ℕ → ℕ → List Float → List Float
relative_cells s h bits cells =
    accepting (relative_code s h bits (length cells))
    (thetas (squared_mean s) (squared_coefficient s) (of_bits binary64 bits) h ++ drop h cells)
    (λ _. cells)
