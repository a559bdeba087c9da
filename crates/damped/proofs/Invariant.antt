-- A state of a damped model without season beside the exact recursion: the invariant, which a reading keeps, and the one-step forecast by it.
use mathlib.Core.Path.{◌≡◌, refl, ap}
use mathlib.Core.Bool.{true, false}
use Prim.Native.Nat.{ℕ, zero, suc, ◌+◌, ◌*◌, ◌-◌, ◌^◌, ◌≤◌, ◌<◌}
use native.Mathlib.Nat.{pow-succ'}
use native.Mathlib.Numerals.{add-one}
use native.Mathlib.Omega.{arith}
use lib.IntN.{ℤ, pos, negsuc, nat_abs, ◌+ℤ◌, ◌-ℤ◌, ◌*ℤ◌}
use lib.Signed.{◌<ℤ◌}
use Rattle.integers.specs.Bounds.{Within}
use Rattle.integers.proofs.Bounds.{within-parts}
use Rattle.integers.proofs.Difference.{diff, known, scaled, lt_out}
use Rattle.models.specs.Models.{ties_to_even}
use Rattle.state.specs.Fixed.{share}
use Rattle.state.specs.declared.State.{State}
use Rattle.state.proofs.Rounding.{share-error}
use Rattle.ets.specs.Steps.{damped_trend, season_by, residual, residual_of, new_level, new_trend, after_reading}
use Rattle.forecasts.specs.Forecasts.{trend_at, trend_line, season_at, forecast_of}
use Rattle.drift.specs.Exact.{Parameters, parameters_of, Exact, exponent, exact_damped, exact_residual_by, exact_residual, adjusted, exact_reading, exact_trend_at, exact_line, exact_forecast}
use Rattle.drift.specs.Limits.{AtMost}
use Rattle.drift.proofs.Readings.{plus_none, power, power-next}
use Rattle.damped.specs.Limits.{scaled_k, GainsWithinOne, OneStepBound}
use Rattle.damped.proofs.Contraction.{Near, near_next, one-step, corrected, damped-error}

-- ---- the parameters: C = 65536 − F and so on, as the contraction has them
abbrev pub N : Parameters → ℕ
N c = nat_abs (scaled_k c)

abbrev pub C : Parameters → ℕ
C c = 65536 - c.phi

abbrev pub D : Parameters → ℕ
D c = 4294967296 - (c.alpha * 65536 + c.phi * c.beta)

abbrev pub M : Parameters → ℕ
M c = 2 * 281474976710656 - N c

pub record Damped (c : Parameters) : Type 0 where
  pub trended : c.trended ≡ true
  pub seasonless : c.seasonal ≡ false
  pub h_c : c.phi + C c ≡ 65536
  pub h_d : D c + (c.alpha * 65536 + c.phi * c.beta) ≡ 4294967296
  pub h_n : N c + c.phi * c.phi * c.beta ≡ C c * (c.alpha * 65536) + c.phi * c.beta * C c
  pub h_m : M c + N c ≡ 2 * 281474976710656
  pub some : 0 < C c

-- ---- from the condition on K
positive : (z : ℤ) (a b : ℕ) → pos 0 <ℤ z → z +ℤ pos a ≡ pos b → nat_abs z + a ≡ b
positive (pos n) a b h e = ap nat_abs e
positive (negsuc n) a b h e = absurd (omega (arith, lt_out h))

K-law : (c : Parameters) (C : ℕ) → c.phi + C ≡ 65536 → scaled_k c +ℤ pos (c.phi * c.phi * c.beta) ≡ pos (C * (c.alpha * 65536) + c.phi * c.beta * C)
K-law c C h = simp diff (omega (arith, ap (λ (z : ℕ). c.alpha * z) h, ap (λ (z : ℕ). c.phi * c.beta * z) h))

module _ (c : Parameters) (trended : c.trended ≡ true) (seasonless : c.seasonal ≡ false) (phi : c.phi ≤ 65536) (gains : GainsWithinOne c) (margin : pos 0 <ℤ scaled_k c) where
  h_c : c.phi + C c ≡ 65536
  h_c = omega arith

  h_d : D c + (c.alpha * 65536 + c.phi * c.beta) ≡ 4294967296
  h_d = omega arith

  h_n : N c + c.phi * c.phi * c.beta ≡ C c * (c.alpha * 65536) + c.phi * c.beta * C c
  h_n = positive (scaled_k c) (c.phi * c.phi * c.beta) (C c * (c.alpha * 65536) + c.phi * c.beta * C c) margin (K-law c (C c) h_c)

  above : (z : ℤ) → pos 0 <ℤ z → 0 < nat_abs z
  above (pos n) h = omega (arith, lt_out h)
  above (negsuc n) h = omega arith

  -- K ≤ α + φβ ≤ 1
  small : (A B C D F N : ℕ) → F + C ≡ 65536 → D + (A * 65536 + F * B) ≡ 4294967296 → N + F * F * B ≡ C * (A * 65536) + F * B * C → N ≤ 281474976710656
  small A B C D F N h_c h_d h_n = omega (arith, ap (λ (z : ℕ). C * z) h_d)

  -- K would be −β for φ = 1
  less : (A B C F N : ℕ) → N + F * F * B ≡ C * (A * 65536) + F * B * C → 0 < N → 0 < C
  less A B zero F N h_n h = omega arith
  less A B (suc C) F N h_n h = omega arith

  pub damped : Damped c
  damped =
      record {
        trended = trended;
        seasonless = seasonless;
        h_c = h_c;
        h_d = h_d;
        h_n = h_n;
        h_m = omega (arith, small c.alpha c.beta (C c) (D c) c.phi (N c) h_c h_d h_n);
        some = less c.alpha c.beta (C c) c.phi (N c) h_n (above (scaled_k c) margin);
      }

-- ---- the invariant
abbrev pub level_error : State → Exact → ℤ
level_error s x = pos (power x) *ℤ s.level -ℤ x.L

abbrev pub trend_error : State → Exact → ℤ
trend_error s x = pos (power x) *ℤ s.trend -ℤ x.T

abbrev pub Close : Parameters → State → Exact → Type 0
Close c s x = Near c.beta (C c) c.phi (M c) (N c) (power x) (level_error s x) (trend_error s x)

-- the error of the one-step forecast, from those of level and trend and of rounding d
forecast-error : (P F : ℕ) (l d b L T : ℤ) → pos (65536 * P) *ℤ (l +ℤ d) -ℤ (pos 65536 *ℤ L +ℤ pos F *ℤ T) ≡ pos 65536 *ℤ (pos P *ℤ l -ℤ L) +ℤ pos F *ℤ (pos P *ℤ b -ℤ T) +ℤ pos P *ℤ (pos 65536 *ℤ d -ℤ pos F *ℤ b)
forecast-error P F l d b L T = rw (known l, known d, known b, known L, known T) (simp diff (omega arith))

-- without a season value
bare-law : (y Q S : ℤ) (P : ℕ) → S ≡ pos 0 → pos P *ℤ (pos 65536 *ℤ y) -ℤ (Q +ℤ pos 65536 *ℤ S) ≡ pos P *ℤ (pos 65536 *ℤ y) -ℤ Q
bare-law y Q S P h = rw (h, known y, known Q) (simp diff (omega arith))

power-one : (n : ℕ) → 65536 ^ (2 * n + 1) ≡ 65536 * 65536 ^ (2 * n)
power-one n = rw (add-one (2 * n)) (pow-succ' 65536 (2 * n))

sized : (n e : ℕ) (z : ℤ) → Within (2 * e) (pos (2 * n) *ℤ z) → n * nat_abs z ≤ e
sized n e (pos a) w = omega (arith, within-parts w, scaled (2 * n) (pos a))
sized n e (negsuc a) w = omega (arith, within-parts w, scaled (2 * n) (negsuc a))

module _ (s : State) (x : Exact) (m : Damped (parameters_of s)) (near : Close (parameters_of s) s x) (unmissed : x.missed ≡ 0) where
  abbrev P : ℕ
  P = power x

  -- d, the one-step forecast and the exact one
  abbrev d : ℤ
  d = share (ties_to_even s.model) s.phi s.trend

  abbrev q : ℤ
  q = s.level +ℤ d

  abbrev Q : ℤ
  Q = pos 65536 *ℤ x.L +ℤ pos s.phi *ℤ x.T

  abbrev r3 : ℤ
  r3 = pos 65536 *ℤ d -ℤ pos s.phi *ℤ s.trend

  d-is : damped_trend s ≡ d
  unfolding damped_trend
  d-is = rw m.trended

  exponent-is : exponent (parameters_of s) x ≡ 2 * x.n
  exponent-is = rw (m.trended, unmissed) (omega arith)

  u-is : pos (65536 * P) *ℤ q -ℤ Q ≡ pos 65536 *ℤ level_error s x +ℤ pos s.phi *ℤ trend_error s x +ℤ pos P *ℤ r3
  u-is = forecast-error P s.phi s.level d s.trend x.L x.T

  -- ---- the forecast
  rounded : forecast_of s 1 ≡ q
  unfolding forecast_of trend_line trend_at season_at
  rounded = rw m.seasonless (plus_none q (pos 0) refl)

  exact : exact_forecast (parameters_of s) x 1 ≡ Q
  unfolding exact_forecast exact_line exact_trend_at
  exact = rw m.seasonless (plus_none Q (pos 0) refl)

  half3 : Within 65536 (pos 2 *ℤ r3)
  half3 = share-error (ties_to_even s.model) s.phi s.trend

  pub forecast-close : OneStepBound (parameters_of s) (exponent (parameters_of s) x + 1) (forecast_of s 1) (exact_forecast (parameters_of s) x 1)
  unfolding AtMost
  forecast-close =
      rw (exponent-is, rounded, exact, power-one x.n, u-is)
      (scale P (N (parameters_of s) * nat_abs (pos 65536 *ℤ level_error s x +ℤ pos s.phi *ℤ trend_error s x +ℤ pos P *ℤ r3))
      (sized (N (parameters_of s)) (18446744073709551616 * P) (pos 65536 *ℤ level_error s x +ℤ pos s.phi *ℤ trend_error s x +ℤ pos P *ℤ r3)
      (one-step s.alpha s.beta (C (parameters_of s)) (D (parameters_of s)) s.phi (M (parameters_of s)) (N (parameters_of s)) m.h_c m.h_d m.h_n m.h_m P (level_error s x) (trend_error s x) near r3 half3)))
    where
      scale : (P a : ℕ) → a ≤ 18446744073709551616 * P → a ≤ 65536 ^ 3 * (65536 * P)
      scale P a h = omega arith

  -- ---- a reading
  module _ (y : ℤ) (bare : x.S x.p ≡ pos 0) where
    e-is : residual_of s y ≡ pos 65536 *ℤ y -ℤ q
    unfolding residual season_by
    e-is = rw (d-is, m.seasonless, plus_none q (pos 0) refl)

    E-is : exact_residual (parameters_of s) x y ≡ pos (65536 * P) *ℤ (pos 65536 *ℤ y) -ℤ Q
    unfolding exact_residual_by exact_damped
    E-is = rw (exponent-is, m.trended, pow-succ' 65536 (2 * x.n)) (bare-law y Q (x.S x.p) (65536 * P) bare)

    -- what rounding adds to a gain's share of the residual
    abbrev rest : ℕ → ℤ
    rest g = pos 65536 *ℤ share (ties_to_even s.model) g (pos 65536 *ℤ y -ℤ q) -ℤ pos g *ℤ (pos 65536 *ℤ y -ℤ q)

    level-new : level_error (after_reading s y) (exact_reading (parameters_of s) x y) ≡ pos 65536 *ℤ (pos (65536 * P) *ℤ q -ℤ Q) -ℤ pos s.alpha *ℤ (pos (65536 * P) *ℤ q -ℤ Q) +ℤ pos (65536 * P) *ℤ rest s.alpha
    unfolding new_level adjusted exact_damped
    level-new =
        rw (power-next x.n, e-is, E-is, d-is, m.trended) (corrected P s.alpha q Q (share (ties_to_even s.model) s.alpha (pos 65536 *ℤ y -ℤ q)) q Q y)

    trend-new : trend_error (after_reading s y) (exact_reading (parameters_of s) x y) ≡ pos 65536 *ℤ (pos (65536 * P) *ℤ d -ℤ pos s.phi *ℤ x.T) -ℤ pos s.beta *ℤ (pos (65536 * P) *ℤ q -ℤ Q) +ℤ pos (65536 * P) *ℤ rest s.beta
    unfolding new_trend adjusted exact_damped
    trend-new =
        rw (power-next x.n, e-is, E-is, d-is, m.trended) (corrected P s.beta d (pos s.phi *ℤ x.T) (share (ties_to_even s.model) s.beta (pos 65536 *ℤ y -ℤ q)) q Q y)

    pub close-reading : Close (parameters_of s) (after_reading s y) (exact_reading (parameters_of s) x y)
    close-reading =
        rw (level-new, trend-new, power-next x.n, damped-error P s.phi d s.trend x.T, u-is)
        (near_next s.alpha s.beta (C (parameters_of s)) (D (parameters_of s)) s.phi (M (parameters_of s)) (N (parameters_of s)) m.h_c m.h_d m.h_n m.h_m P (level_error s x) (trend_error s x) near r3 half3 (rest s.alpha) (rest s.beta) (share-error (ties_to_even s.model) s.alpha (pos 65536 *ℤ y -ℤ q)) (share-error (ties_to_even s.model) s.beta (pos 65536 *ℤ y -ℤ q)) m.some)
