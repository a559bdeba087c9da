-- The switch to ties to even: the model byte is the same but for bit 6, so the checks are.
use Prim.Native.Nat.{ℕ}
use mathlib.Core.Path.{◌≡◌, refl, ap, ◌∙◌}
use native.Mathlib.Decide.{ℕ_discrete}
use native.Mathlib.Omega.{arith}
use borrow.Author.Tests.{ne_eqb}
use Rattle.std.proofs.Common.{Ok, Err}
use Rattle.state.specs.Rejections.{rejection_of}
use Rattle.models.specs.Models.{trend_of, season_of, rounding_of, errors_of, to_up, to_even}
use Rattle.state.specs.States.{parameters_code, check}
use Rattle.state.specs.Switching.{switched, switch_to_even, SwitchLaws}
use Rattle.state.specs.declared.State.{State}
use Rattle.state.specs.declared.Switched.{Switched}

-- ---- the parts of the byte
even-trend : (m : ℕ) → trend_of (to_even m) ≡ trend_of m
even-trend m = omega arith

even-season : (m : ℕ) → season_of (to_even m) ≡ season_of m
even-season m = omega arith

even-errors : (m : ℕ) → errors_of (to_even m) ≡ errors_of m
even-errors m = omega arith

even-rounding : (m : ℕ) → rounding_of (to_even m) ≡ 1
even-rounding m = omega arith

even_up : (m : ℕ) → to_up (to_even m) ≡ to_up m
even_up m = omega arith

pub checks-kept : (s : State) → check (switched s) ≡ check s
unfolding check parameters_code
checks-kept s = rw (even_up s.model, even-trend s.model, even-season s.model)

pub switch-accepted : (s : State) → check s ≡ 0 → switch_to_even s ≡ record { state = switched s; outcome = Ok tt }
unfolding switch_to_even
switch-accepted s e = rw e

pub switch-rejected : (s : State) (n : ℕ) → check s ≡ n → (n ≡ 0 → ⊥) → switch_to_even s ≡ record { state = s; outcome = Err (rejection_of n) }
unfolding switch_to_even
switch-rejected s n e h = rw (e, ne_eqb n 0 h)

-- the second switch finds the model byte as it leaves it
twice : (s : State) → switched (switched s) ≡ switched s
twice s = rw (even_up s.model)

again : (s : State) → switch_to_even (switch_to_even s).state ≡ switch_to_even s
again s = go (ℕ_discrete (check s) 0)
  where
    go : Dec (check s ≡ 0) → switch_to_even (switch_to_even s).state ≡ switch_to_even s
    go (yes z) = rw (switch-accepted s z) (switch-accepted (switched s) (checks-kept s ∙ z) ∙ rw (twice s))
    go (no h) = ap (λ (r : Switched). switch_to_even r.state) (switch-rejected s (check s) refl h)

pub switch-law : SwitchLaws
switch-law s =
    record {
      rule = rw (even-rounding s.model);
      trend = rw (even-trend s.model);
      season = rw (even-season s.model);
      errors = rw (even-errors s.model);
      checks = checks-kept s;
      again = again s;
    }
