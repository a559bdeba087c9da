-- What the private functions' contracts say of the arrays that they work on: μ as whole 65,536ths, and c × c, each at its place less 1.
use Rattle.std.specs.Prelude.{ℕ, zero, suc, ◌-◌, ◌≤◌, ◌<◌, List, [], ◌∷◌, ◌++◌, ℤ, pos, nat_abs, get_or, drop, Float, Result}
use Rattle.std.specs.Float.{nan}
use Rattle.state.specs.Rejections.{unless, accepting, not_finite}
use Rattle.state.specs.declared.State.{State}
use Rattle.relative_errors.specs.Relative.{squared, squared_mean, squared_coefficient, thetas, variance_of, all_finite, relative_answer}
use Rattle.state.specs.declared.Rejection.{Rejection}

-- μ × μ of k
abbrev pub means_in : List ℤ → ℕ → Float
means_in ms k = squared (get_or ms (k - 1) (pos 0))

-- c × c of j
abbrev pub squares_in : List Float → ℕ → Float
squares_in cs j = get_or cs (j - 1) nan

-- the squares of the first n numbers
unfoldable pub square_list : List ℕ → ℕ → List Float
square_list ns zero = []
square_list ns (suc n) = square_list ns n ++ (squared (pos (get_or ns n 0)) ∷ [])

-- the first n numbers are doubles
abbrev pub Small : List ℕ → ℕ → Type 0
Small ns n = (i : ℕ) → i < n → get_or ns i 0 ≤ 9007199254740992

abbrev pub SmallMeans : List ℤ → ℕ → Type 0
SmallMeans ms n = (i : ℕ) → i < n → nat_abs (get_or ms i (pos 0)) ≤ 9007199254740992

-- what the computation answers, and leaves in the lent doubles, where nothing but 19 rejects the call
unfoldable pub computed_code : State → ℕ → Float → ℕ
computed_code s h σ² = unless (all_finite (squared_mean s) (squared_coefficient s) σ² h) not_finite

unfoldable pub computed_variance : State → ℕ → Float → Result Float Rejection
computed_variance s h σ² = relative_answer (computed_code s h σ²) (variance_of (squared_mean s) (squared_coefficient s) σ² h)

unfoldable pub computed_cells : State → ℕ → Float → List Float → List Float
computed_cells s h σ² cells =
    accepting (computed_code s h σ²) (thetas (squared_mean s) (squared_coefficient s) σ² h ++ drop h cells) (λ _. cells)
