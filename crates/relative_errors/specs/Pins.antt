-- Computed: the variance of T3's state with multiplicative errors, the order of its refusals, and what 19 tests.
use Rattle.std.specs.Prelude.{ℕ, ◌+◌, ◌≡◌, true, false, [], ◌∷◌, pos, Float, Ok}
use Rattle.std.specs.Float.{binary64}
use Rattle.std.specs.Float.Ieee.{of_bits}
use Rattle.state.specs.Scores.{no_score}
use Rattle.state.specs.States.{state_of}
use Rattle.state.specs.declared.State.{State}
use Rattle.relative_errors.specs.Relative.{one, one_bits, thetas_finite, all_finite, input_code, relative_variance, relative_cells}

-- T3's state, with bit 3: μ of 1, 2, 3 is 1, 2, 3 and c of 1, 2 is 0.75, 1
abbrev pub straight : ℕ → State
straight model = state_of false model 0 32768 16384 0 65536 (pos 0) (pos 65536) [] 0 0 no_score

-- 0.25 and 7.0
abbrev pub quarter_bits : ℕ
quarter_bits = 0x3fd0_0000_0000_0000

abbrev pub seven : Float
seven = of_bits binary64 0x401c_0000_0000_0000

-- the largest double
abbrev pub largest : Float
largest = of_bits binary64 0x7fef_ffff_ffff_ffff

abbrev pub always : Float → ℕ → Float
always x n = x

pub record Pins : Type 0 where
  -- θ of 1, 2, 3 is 1, 4.140625, 9.832275390625; the answer 1.25 × 9.832275390625 − 9 = 3.29034423828125
  pub answer : relative_variance (straight 9) 3 quarter_bits 3 ≡ Ok (of_bits binary64 0x400a_52a0_0000_0000)
  pub cells : relative_cells (straight 9) 3 quarter_bits (seven ∷ seven ∷ seven ∷ seven ∷ [])
      ≡ of_bits binary64 0x3ff0_0000_0000_0000 ∷ of_bits binary64 0x4010_9000_0000_0000 ∷ of_bits binary64 0x4023_aa20_0000_0000 ∷ seven ∷ []
  -- σ² of 1 is taken, and the next double is 18
  pub most : input_code (straight 9) 3 one_bits 3 ≡ 0
  pub above : input_code (straight 9) 3 (one_bits + 1) 3 ≡ 18
  -- 5, then 3, 11, 18, 12
  pub first : input_code (straight 11) 0 (one_bits + 1) 0 ≡ 5
  pub second : input_code (straight 1) 0 (one_bits + 1) 0 ≡ 3
  pub third : input_code (straight 9) 0 (one_bits + 1) 0 ≡ 11
  pub fourth : input_code (straight 9) 3 (one_bits + 1) 2 ≡ 18
  pub fifth : input_code (straight 9) 3 one_bits 2 ≡ 12
  -- 19: a θ that is the largest double is finite, and twice it is not, in the answer or in the next θ
  pub thetas : thetas_finite (always largest) (always one) one 1 ≡ true
  pub answer_too : all_finite (always largest) (always one) one 1 ≡ false
  pub later_theta : thetas_finite (always largest) (always one) one 2 ≡ false
