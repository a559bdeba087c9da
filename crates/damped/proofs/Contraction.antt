-- What a reading does to the errors of level and trend, and the invariant that it keeps: in whole numbers, of no product definition.
-- With δ and η the errors of level and trend over P (P × l − L, P × b − T), the invariant is
--     |δ + φ η| ≤ 1/K − 1/2      (1 − φ) |η| ≤ β/K + 1
-- and N is 65536 ^ 3 × K. Rounding d comes on top of the first, so that the one-step forecast is within 1/K by either rounding rule.
use mathlib.Core.Path.{◌≡◌, ◌∙◌, ap}
use Prim.Native.Nat.{ℕ, ◌+◌, ◌*◌, ◌≤◌, ◌<◌}
use native.Mathlib.Nat.{le_refl, le_of_mul-le-mul_left}
use native.Mathlib.Omega.{arith}
use lib.IntN.{ℤ, pos, ◌+ℤ◌, ◌-ℤ◌, ◌*ℤ◌}
use Rattle.integers.specs.Bounds.{Within}
use Rattle.integers.proofs.Bounds.{zs, within-add, within-sub, within-mul}
use Rattle.integers.proofs.Difference.{diff, known, up, dn}

-- ---- one number, corrected: z becomes z + r, and Z, over 65536 × P, becomes 65536 × Z + g × E. With q the one-step forecast and Q the exact one
pub corrected : (P g : ℕ) (z Z r q Q y : ℤ) → pos (4294967296 * P) *ℤ (z +ℤ r) -ℤ (pos 65536 *ℤ Z +ℤ pos g *ℤ (pos (65536 * P) *ℤ (pos 65536 *ℤ y) -ℤ Q)) ≡ pos 65536 *ℤ (pos (65536 * P) *ℤ z -ℤ Z) -ℤ pos g *ℤ (pos (65536 * P) *ℤ q -ℤ Q) +ℤ pos (65536 * P) *ℤ (pos 65536 *ℤ r -ℤ pos g *ℤ (pos 65536 *ℤ y -ℤ q))
corrected P g z Z r q Q y = rw (known z, known Z, known r, known q, known Q, known y) (simp diff (omega arith))

-- d, and with it the one-step forecast
pub damped-error : (P F : ℕ) (d b T : ℤ) → pos (65536 * P) *ℤ d -ℤ pos F *ℤ T ≡ pos F *ℤ (pos P *ℤ b -ℤ T) +ℤ pos P *ℤ (pos 65536 *ℤ d -ℤ pos F *ℤ b)
damped-error P F d b T = rw (known d, known b, known T) (simp diff (omega arith))

-- ---- with u the error of the one-step forecast and t that of d, over P: 65536 times the new error of the level and F times that of the trend, where D is
-- 65536² − 65536 A − F B
gathered : (A B D F P : ℕ) (u t r1 r2 : ℤ) → D + (A * 65536 + F * B) ≡ 4294967296 → pos 65536 *ℤ (pos 65536 *ℤ u -ℤ pos A *ℤ u +ℤ pos P *ℤ r1) +ℤ pos F *ℤ (pos 65536 *ℤ t -ℤ pos B *ℤ u +ℤ pos P *ℤ r2) ≡ pos D *ℤ u +ℤ pos (65536 * F) *ℤ t +ℤ (pos (65536 * P) *ℤ r1 +ℤ pos (F * P) *ℤ r2)
gathered A B D F P u t r1 r2 h_d =
    rw (known u, known t, known r1, known r2)
    (simp diff (omega (arith, ap (λ (z : ℕ). up u * z) h_d, ap (λ (z : ℕ). dn u * z) h_d)))

-- each error by the number that its bound is multiplied by
line-law : (C N a b c d : ℕ) (u t r1 r2 : ℤ) → pos C *ℤ (pos (2 * N) *ℤ (pos a *ℤ u +ℤ pos b *ℤ t +ℤ (pos c *ℤ r1 +ℤ pos d *ℤ r2))) ≡ pos (C * a) *ℤ (pos (2 * N) *ℤ u) +ℤ pos b *ℤ (pos (2 * N * C) *ℤ t) +ℤ (pos (c * (N * C)) *ℤ (pos 2 *ℤ r1) +ℤ pos (d * (N * C)) *ℤ (pos 2 *ℤ r2))
line-law C N a b c d u t r1 r2 =
    rw (sum (pos a *ℤ u +ℤ pos b *ℤ t) (pos c *ℤ r1 +ℤ pos d *ℤ r2), errors u t, roundings r1 r2)
  where
    sum : (x y : ℤ) → pos C *ℤ (pos (2 * N) *ℤ (x +ℤ y)) ≡ pos C *ℤ (pos (2 * N) *ℤ x) +ℤ pos C *ℤ (pos (2 * N) *ℤ y)
    sum x y = rw (known x, known y) (simp diff (omega arith))

    errors : (u t : ℤ) → pos C *ℤ (pos (2 * N) *ℤ (pos a *ℤ u +ℤ pos b *ℤ t)) ≡ pos (C * a) *ℤ (pos (2 * N) *ℤ u) +ℤ pos b *ℤ (pos (2 * N * C) *ℤ t)
    errors u t = rw (known u, known t) (simp diff (omega arith))

    roundings : (r1 r2 : ℤ) → pos C *ℤ (pos (2 * N) *ℤ (pos c *ℤ r1 +ℤ pos d *ℤ r2)) ≡ pos (c * (N * C)) *ℤ (pos 2 *ℤ r1) +ℤ pos (d * (N * C)) *ℤ (pos 2 *ℤ r2)
    roundings r1 r2 = rw (known r1, known r2) (simp diff (omega arith))

trend-law : (B C N P : ℕ) (u t r2 : ℤ) → pos (2 * N * C) *ℤ (pos 65536 *ℤ t -ℤ pos B *ℤ u +ℤ pos P *ℤ r2) ≡ pos 65536 *ℤ (pos (2 * N * C) *ℤ t) -ℤ pos (C * B) *ℤ (pos (2 * N) *ℤ u) +ℤ pos (P * (N * C)) *ℤ (pos 2 *ℤ r2)
trend-law B C N P u t r2 = rw (known u, known t, known r2) (simp diff (omega arith))

-- with w the error of l + φ b, and its rounding on top
line-rounded : (N P : ℕ) (w r : ℤ) → pos (2 * N) *ℤ (w +ℤ pos P *ℤ r) ≡ pos (2 * N) *ℤ w +ℤ pos (N * P) *ℤ (pos 2 *ℤ r)
line-rounded N P w r = rw (known w, known r) (simp diff (omega arith))

trend-rounded : (C F N P : ℕ) (η r : ℤ) → pos (2 * N * C) *ℤ (pos F *ℤ η +ℤ pos P *ℤ r) ≡ pos F *ℤ (pos (2 * N * C) *ℤ η) +ℤ pos (P * (N * C)) *ℤ (pos 2 *ℤ r)
trend-rounded C F N P η r = rw (known η, known r) (simp diff (omega arith))

-- ---- bounds
within-cancel : (a n : ℕ) (x : ℤ) → 0 < a → Within (a * n) (pos a *ℤ x) → Within n x
within-cancel a n x h = rw (known x) (simp zs (λ k. (le_of_mul-le-mul_left (low (up x) (dn x) k.0) h, le_of_mul-le-mul_left (high (up x) (dn x) k.1) h)))
  where
    low : (p q : ℕ) → a * q ≤ a * p + a * n → a * q ≤ a * (p + n)
    low p q h = omega arith

    high : (p q : ℕ) → a * p ≤ a * n + a * q → a * p ≤ a * (n + q)
    high p q h = omega arith

same-bound : {n m : ℕ} {x y : ℤ} → n ≡ m → y ≡ x → Within n x → Within m y
same-bound e f h = rw (← e, f) h

abbrev Half : ℤ → Type 0
Half r = Within 65536 (pos 2 *ℤ r)

-- ---- the invariant, times 2N and 2NC, with C = 65536 − F and M = 65536³ × (2 − K)
pub record Near (B C F M N P : ℕ) (δ η : ℤ) : Type 0 where
  pub line : Within (65536 * P * M) (pos (2 * N) *ℤ (pos 65536 *ℤ δ +ℤ pos F *ℤ η))
  pub trend : Within (2 * (65536 * P * (4294967296 * B + N))) (pos (2 * N * C) *ℤ η)

pub near-start : (B C F M N P : ℕ) → Near B C F M N P (pos 0) (pos 0)
near-start B C F M N P = record { line = simp zs (omega arith); trend = simp zs (omega arith) }

-- ---- with D = 65536² × (1 − α − φβ)
module _ (A B C D F M N : ℕ) (h_c : F + C ≡ 65536) (h_d : D + (A * 65536 + F * B) ≡ 4294967296) (h_n : N + F * F * B ≡ C * (A * 65536) + F * B * C) (h_m : M + N ≡ 2 * 281474976710656) where
  module _ (P : ℕ) (δ η : ℤ) (near : Near B C F M N P δ η) (r3 : ℤ) (h3 : Half r3) where
    -- the error of the one-step forecast: K |u| ≤ 1
    abbrev pub one_step : ℤ
    one_step = pos 65536 *ℤ δ +ℤ pos F *ℤ η +ℤ pos P *ℤ r3

    pub one-step : Within (2 * (18446744073709551616 * P)) (pos (2 * N) *ℤ one_step)
    one-step =
        same-bound bound (line-rounded N P (pos 65536 *ℤ δ +ℤ pos F *ℤ η) r3) (within-add near.line (within-mul (le_refl (N * P)) h3))
      where
        bound : 65536 * P * M + N * P * 65536 ≡ 2 * (18446744073709551616 * P)
        bound = omega (arith, ap (λ (z : ℕ). P * z) h_m)

    -- the error of d
    abbrev pub rounded : ℤ
    rounded = pos F *ℤ η +ℤ pos P *ℤ r3

    rounded-within : Within (F * (2 * (65536 * P * (4294967296 * B + N))) + P * (N * C) * 65536) (pos (2 * N * C) *ℤ rounded)
    rounded-within = rw (trend-rounded C F N P η r3) (within-add (within-mul (le_refl F) near.trend) (within-mul (le_refl (P * (N * C))) h3))

    -- ---- after a reading, with r1 and r2 of the rounded shares of the residual
    module _ (r1 r2 : ℤ) (h1 : Half r1) (h2 : Half r2) where
      abbrev pub new_level : ℤ
      new_level = pos 65536 *ℤ one_step -ℤ pos A *ℤ one_step +ℤ pos (65536 * P) *ℤ r1

      abbrev pub new_trend : ℤ
      new_trend = pos 65536 *ℤ rounded -ℤ pos B *ℤ one_step +ℤ pos (65536 * P) *ℤ r2

      trend-bound : 65536 * (F * (2 * (65536 * P * (4294967296 * B + N))) + P * (N * C) * 65536) + C * B * (2 * (18446744073709551616 * P)) + 65536 * P * (N * C) * 65536 ≡ 2 * (65536 * (4294967296 * P) * (4294967296 * B + N))
      trend-bound = omega (arith, ap (λ (z : ℕ). B * P * z) h_c, ap (λ (z : ℕ). N * P * z) h_c)

      -- here K is what it is: (1 − φ)(1 − α − φβ) + φ²β + K = 1 − φ
      line-bound : C * D * (2 * (18446744073709551616 * P)) + 65536 * F * (F * (2 * (65536 * P * (4294967296 * B + N))) + P * (N * C) * 65536) + (65536 * (65536 * P) * (N * C) * 65536 + F * (65536 * P) * (N * C) * 65536) ≡ C * (65536 * (4294967296 * P) * M)
      line-bound =
          omega (arith, ap (λ (z : ℕ). C * P * z) h_d, ap (λ (z : ℕ). C * P * z) h_m, ap (λ (z : ℕ). N * F * P * z) h_c, ap (λ (z : ℕ). N * P * z) h_c, ap (λ (z : ℕ). P * z) h_n)

      line-is : pos C *ℤ (pos (2 * N) *ℤ (pos 65536 *ℤ new_level +ℤ pos F *ℤ new_trend)) ≡ pos (C * D) *ℤ (pos (2 * N) *ℤ one_step) +ℤ pos (65536 * F) *ℤ (pos (2 * N * C) *ℤ rounded) +ℤ (pos (65536 * (65536 * P) * (N * C)) *ℤ (pos 2 *ℤ r1) +ℤ pos (F * (65536 * P) * (N * C)) *ℤ (pos 2 *ℤ r2))
      line-is =
          ap (λ (z : ℤ). pos C *ℤ (pos (2 * N) *ℤ z)) (gathered A B D F (65536 * P) one_step rounded r1 r2 h_d) ∙ line-law C N D (65536 * F) (65536 * (65536 * P)) (F * (65536 * P)) one_step rounded r1 r2

      pub near_next : 0 < C → Near B C F M N (4294967296 * P) new_level new_trend
      near_next some =
          record {
            line = within-cancel C (65536 * (4294967296 * P) * M) _ some
                (same-bound line-bound line-is
                (within-add (within-add (within-mul (le_refl (C * D)) one-step) (within-mul (le_refl (65536 * F)) rounded-within))
                (within-add (within-mul (le_refl (65536 * (65536 * P) * (N * C))) h1) (within-mul (le_refl (F * (65536 * P) * (N * C))) h2))));
            trend = same-bound trend-bound (trend-law B C N (65536 * P) one_step rounded r2)
                (within-add (within-sub (within-mul (le_refl 65536) rounded-within) (within-mul (le_refl (C * B)) one-step)) (within-mul (le_refl (65536 * P * (N * C))) h2));
          }
