-- Computed: coefficients of T3's and T5's models, and the group of each square.
use Rattle.std.specs.Prelude.{false, [], ◌∷◌, ◌≡◌, pos}
use Rattle.state.specs.Scores.{no_score}
use Rattle.state.specs.States.{state_of}
use Rattle.state.specs.declared.State.{State}
use Rattle.weights.specs.Coefficients.{coefficient_cells}
use Rattle.weights.specs.Groups.{weight_group_cells}

-- straight, A 32768, B 16384; and m 2, A 16384, G 32768
abbrev pub straight : State
straight = state_of false 1 0 32768 16384 0 65536 (pos 0) (pos 65536) [] 0 0 no_score

abbrev pub seasonal : State
seasonal = state_of false 4 2 16384 0 32768 0 (pos 0) (pos 0) [] 0 0 no_score

pub record Pins : Type 0 where
  -- C of 1 and 2: A + B × j, and A + G where m divides j
  pub trend : coefficient_cells straight 2 (7 ∷ 7 ∷ 7 ∷ []) ≡ 49152 ∷ 65536 ∷ 7 ∷ []
  pub season : coefficient_cells seasonal 2 (7 ∷ 7 ∷ 7 ∷ []) ≡ 16384 ∷ 49152 ∷ 7 ∷ []
  -- of horizon 4: j = 2 in group 0, j = 1 and 3 in group 1
  pub groups : weight_group_cells seasonal 4 (7 ∷ 7 ∷ 7 ∷ []) ≡ 2415919104 ∷ 536870912 ∷ 7 ∷ []
