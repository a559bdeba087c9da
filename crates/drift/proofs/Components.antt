-- The component form equals the exact step of every model.
use mathlib.Core.Path.{◌≡◌, refl, sym, ◌∙◌}
use mathlib.Core.Bool.{true}
use mathlib.Core.Logic.{◌≢◌}
use Prim.Native.Nat.{ℕ, ◌+◌, ◌*◌, ◌<◌}
use native.Mathlib.Nat.{eq_of_mul-eq-mul_left}
use native.Mathlib.Omega.{arith}
use lib.IntN.{ℤ, pos, ◌*ℤ◌}
use borrow.Author.Tests.{eq-eqb, ne_eqb}
use Rattle.integers.proofs.Difference.{diff, known}
use Rattle.drift.specs.Exact.{Parameters, Exact, exact_damped, exact_residual_by, exact_residual, adjusted, exact_season_by, exact_season}
use Rattle.drift.specs.Components.{reading, old_level, old_season, new, alpha_trend, ComponentForms}

cancel : (A : ℕ) (x y : ℤ) → 0 < A → pos A *ℤ x ≡ pos A *ℤ y → x ≡ y
cancel A x y h = rw (known x, known y) (simp diff (λ e. eq_of_mul-eq-mul_left A h _ _ (apart _ _ _ _ e)))
  where
    apart : (p n q m : ℕ) → A * p + A * m ≡ A * q + A * n → A * (p + m) ≡ A * (q + n)
    apart p n q m e = omega arith

pub season-here : (c : Parameters) (x : Exact) (e : ℤ) → c.seasonal ≡ true → exact_season c x e x.p ≡ adjusted c.gamma (pos 65536 *ℤ x.S x.p) e
unfolding exact_season_by
season-here c x e h = rw (h, eq-eqb x.p x.p refl)

pub season-there : (c : Parameters) (x : Exact) (e : ℤ) (k : ℕ) → c.seasonal ≡ true → k ≢ x.p → exact_season c x e k ≡ adjusted 0 (pos 65536 *ℤ x.S k) e
unfolding exact_season_by
season-there c x e k h q = rw (h, ne_eqb k x.p q)

trend : (c : Parameters) (x : Exact) (y : ℤ) → pos c.alpha *ℤ (new c x y).T ≡ alpha_trend c x y
unfolding adjusted
trend c x y = rw (known (old_level c x y), known (exact_damped c x), known (exact_residual c x y)) (simp diff (omega arith))

pub component-form : ComponentForms
unfolding adjusted exact_residual_by
component-form c x y =
    record {
      level = rw (known (old_level c x y), known (exact_damped c x), known (old_season c x y), known (reading c x y)) (simp diff (omega arith));
      trend = trend c x y;
      only_trend = λ h b e. cancel c.alpha b (new c x y).T h (e ∙ sym (trend c x y));
      season = λ h. season-here c x (exact_residual c x y) h ∙ rw (known (old_level c x y), known (exact_damped c x), known (old_season c x y), known (reading c x y)) (simp diff (omega arith));
    }
