-- Document 02, W-210: the squares of C by j modulo m.
use Rattle.std.specs.Prelude.{ℕ, zero, suc, ◌+◌, ◌-◌, ◌*◌, ◌%◌, cond, List, [], ◌∷◌, ◌++◌, eqb, leb, length, drop}
use Rattle.models.specs.Models.{has_season}
use Rattle.state.specs.Rejections.{unless, ◌then◌, accepting, outcome, short_buffer, Outcome}
use Rattle.state.specs.declared.State.{State}
use Rattle.weights.specs.Weights.{coefficient, class_one_code}

-- m groups; without season there is one
abbrev pub group_count : State → ℕ
group_count s = cond (has_season s.model) s.period 1

-- group g: the sum of C × C for those j from 1 to n of which j modulo m is g
unfoldable pub group_sum : State → ℕ → ℕ → ℕ
group_sum s g zero = 0
group_sum s g (suc n) = group_sum s g n + cond (eqb (suc n % group_count s) g) (coefficient s (suc n) * coefficient s (suc n)) 0

-- the first k groups for j from 1 to n, group 0 first
unfoldable pub first_groups : State → ℕ → ℕ → List ℕ
first_groups s n zero = []
first_groups s n (suc k) = first_groups s n k ++ (group_sum s k n ∷ [])

-- the groups of h, for j from 1 to h − 1
abbrev pub groups : State → ℕ → List ℕ
groups s h = first_groups s (h - 1) (group_count s)

-- rejected as command 31 is, then by 12
unfoldable pub weight_groups_code : State → ℕ → ℕ → ℕ
weight_groups_code s h room = class_one_code s h then unless (leb (group_count s) room) short_buffer

unfoldable pub weight_groups : State → ℕ → ℕ → Outcome
weight_groups s h room = outcome (weight_groups_code s h room)

-- the groups in the first cells, later cells as found; all as found where it is rejected
unfoldable pub weight_group_cells : State → ℕ → List ℕ → List ℕ
weight_group_cells s h cells =
    accepting (weight_groups_code s h (length cells)) (groups s h ++ drop (group_count s) cells) (λ _. cells)
