-- The list of coefficients: how long it is, and one more; and how large a coefficient is.
use Prim.Native.Nat.{ℕ, zero, suc, ◌+◌, ◌*◌, ◌%◌, ◌<◌, ◌≤◌}
use mathlib.Core.Path.{◌≡◌, refl}
use mathlib.Core.Bool.{Bool, true, false, cond, ◌&&◌}
use mathlib.Core.List.{List, ◌++◌}
use native.Mathlib.Omega.{arith}
use lib.Dec.{eqb}
use lib.ListN.{length, set, drop, length-append}
use Rattle.integers.proofs.Snoc.{snoc-more}
use Rattle.models.specs.Models.{trend_of, has_season, ties_to_even}
use Rattle.state.specs.Fixed.{share_nat}
use Rattle.state.specs.Valid.{Valid}
use Rattle.state.specs.declared.State.{State}
use Rattle.weights.specs.Weights.{damping_sum, trend_term, season_term, coefficient}
use Rattle.weights.specs.Coefficients.{coefficient_list}
use Rattle.weights.proofs.Terms.{product_le, shrinks}

pub coefficients-length : (s : State) (h : ℕ) → length (coefficient_list s h) ≡ h
unfolding coefficient_list
coefficients-length s zero = refl
coefficients-length s (suc h) = rw (length-append, coefficients-length s h) (omega arith)

-- one more coefficient stored
pub coefficients-more : (s : State) (i : ℕ) (cells : List ℕ) → i < length cells →
    set (coefficient_list s i ++ drop i cells) i (coefficient s (suc i)) ≡ coefficient_list s (suc i) ++ drop (suc i) cells
unfolding coefficient_list
coefficients-more s i cells h = snoc-more (coefficient_list s) (λ (n : ℕ). coefficient s (suc n)) 0 (λ n. refl) (coefficients-length s) i cells h

-- ---- how large a coefficient is
damping-most : (even : Bool) (F : ℕ) → F ≤ 65536 → (j : ℕ) → damping_sum even F j ≤ 65536 * j
unfolding damping_sum
damping-most even F h zero = omega arith
damping-most even F h (suc j) = omega (arith, shrinks even F (damping_sum even F j + 65536) h, damping-most even F h j)

trend-most : (s : State) → Valid s → (j : ℕ) → j ≤ 512 → trend_term s j ≤ 33554432
unfolding trend_term
trend-most s v j h = go (eqb (trend_of s.model) 0) (eqb (trend_of s.model) 1)
  where
    go : (a b : Bool) → cond a 0 (cond b (s.beta * j) (share_nat (ties_to_even s.model) s.beta (damping_sum (ties_to_even s.model) s.phi j))) ≤ 33554432
    go true b = omega arith
    go false true = product_le 65536 512 v.bounded.beta h
    go false false =
        let P = damping_sum (ties_to_even s.model) s.phi j in
        omega (arith, shrinks (ties_to_even s.model) s.beta P v.bounded.beta, damping-most (ties_to_even s.model) s.phi v.bounded.phi j)

season-most : (s : State) → Valid s → (j : ℕ) → season_term s j ≤ 65536
unfolding season_term
season-most s v j = go (has_season s.model && eqb (j % s.period) 0)
  where
    go : (b : Bool) → cond b s.gamma 0 ≤ 65536
    go true = v.bounded.gamma
    go false = omega arith

pub coefficient-most : (s : State) → Valid s → (j : ℕ) → j ≤ 512 → coefficient s j ≤ 33685504
unfolding coefficient
coefficient-most s v j h = omega (arith, v.bounded.alpha, trend-most s v j h, season-most s v j)
