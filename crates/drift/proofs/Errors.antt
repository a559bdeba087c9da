-- The error of a rounded number against its exact numerator, and what one reading does to it.
use mathlib.Core.Path.{◌≡◌, sym, ap}
use Prim.Native.Nat.{ℕ, ◌+◌, ◌*◌, ◌≤◌}
use mathlib.Core.Bool.{Bool}
use native.Mathlib.Nat.{mul-le-mul_left}
use native.Mathlib.Omega.{arith}
use lib.IntN.{ℤ, pos, ◌+ℤ◌, ◌-ℤ◌, ◌*ℤ◌}
use Rattle.integers.proofs.Difference.{up, dn, sum, minus, scaled}
use Rattle.state.specs.Fixed.{share}
use Rattle.drift.proofs.Averages.{D, neg_d, Above, mix, zero_d, Same, scale_d}
use Rattle.drift.proofs.Rounding.{share-below, share-above}

abbrev pub parts : ℤ → D
parts z = (up z, dn z)

abbrev pub add_d : D → D → D
add_d u v = (u.0 + v.0, u.1 + v.1)

-- Kn × z − Z
abbrev pub err : ℕ → D → D → D
err Kn z Z = (Kn * z.0 + Z.1, Kn * z.1 + Z.0)

-- ---- in naturals, over 65536 squared: a reading's two powers. With δ, σ and ε the errors of the corrected number, of the other one and of the residual, and ρ that of rounding
average : (Kn A B : ℕ) (u δ σ ε ρ : D) → A + B ≡ 4294967296 → Same u (add_d (scale_d 4294967296 δ) (add_d (scale_d A ε) ρ)) → Same (add_d ε (add_d δ σ)) zero_d → ρ.1 ≤ ρ.0 + 2147483648 * Kn → Above (4294967296 * Kn) u (mix B δ A (neg_d σ))
average Kn A B u δ σ ε ρ e h s r =
    omega (arith, ap (λ (z : ℕ). A * z) s, ap (λ (z : ℕ). z * δ.0) e, ap (λ (z : ℕ). z * δ.1) e)

-- Kn times what rounding A × e to g adds
abbrev rest : ℕ → ℕ → D → D → D
rest Kn A e g = (4294967296 * (Kn * g.0) + A * (Kn * e.1), 4294967296 * (Kn * g.1) + A * (Kn * e.0))

split : (Kn A : ℕ) (e E l L l' L' g : D) → Same l' (add_d l g) → Same L' (add_d (scale_d 4294967296 L) (scale_d A E)) → Same (err (4294967296 * Kn) l' L') (add_d (scale_d 4294967296 (err Kn l L)) (add_d (scale_d A (err Kn e E)) (rest Kn A e g)))
split Kn A e E l L l' L' g h k = omega (arith, ap (λ (z : ℕ). 4294967296 * Kn * z) h)

rest-small : (Kn A : ℕ) (e g : D) → A * e.0 + 4294967296 * g.1 ≤ A * e.1 + 4294967296 * g.0 + 2147483648 → (rest Kn A e g).1 ≤ (rest Kn A e g).0 + 2147483648 * Kn
rest-small Kn A e g h = omega (arith, mul-le-mul_left Kn h)

corrected : (Kn A B : ℕ) (e E l L s S l' L' g : D) → A + B ≡ 4294967296 → Same l' (add_d l g) → Same L' (add_d (scale_d 4294967296 L) (scale_d A E)) → Same (add_d (err Kn e E) (add_d (err Kn l L) (err Kn s S))) zero_d → A * e.0 + 4294967296 * g.1 ≤ A * e.1 + 4294967296 * g.0 + 2147483648 → Above (4294967296 * Kn) (err (4294967296 * Kn) l' L') (mix B (err Kn l L) A (neg_d (err Kn s S)))
corrected Kn A B e E l L s S l' L' g hAB hl hL hE hr =
    average Kn A B (err (4294967296 * Kn) l' L') (err Kn l L) (err Kn s S) (err Kn e E) (rest Kn A e g) hAB
    (split Kn A e E l L l' L' g hl hL)
    hE
    (rest-small Kn A e g hr)

-- ---- in whole numbers
-- the errors of the residual, of the level and of the season value make 0: the reading is gone
pub residual-error : (Kn : ℕ) (e l d s L S y : ℤ) → d ≡ pos 0 → e ≡ pos 65536 *ℤ y -ℤ (l +ℤ d +ℤ s) → Same (add_d (err Kn (parts e) (parts (pos Kn *ℤ (pos 65536 *ℤ y) -ℤ L -ℤ S))) (add_d (err Kn (parts l) (parts L)) (err Kn (parts s) (parts S)))) zero_d
residual-error Kn e l d s L S y d0 es = join (parts e) (parts E) (parts l) (parts s) (parts L) (parts S) (parts y) rounded exact
  where
    E : ℤ
    E = pos Kn *ℤ (pos 65536 *ℤ y) -ℤ L -ℤ S

    rounded : up e + (65536 * dn y + (up l + up s)) ≡ dn e + (65536 * up y + (dn l + dn s))
    rounded = omega (arith, ap up es, ap dn es, ap up d0, ap dn d0, minus (pos 65536 *ℤ y) (l +ℤ d +ℤ s), scaled 65536 y, sum (l +ℤ d) s, sum l d)

    exact : up E + (Kn * (65536 * dn y) + (up L + up S)) ≡ dn E + (Kn * (65536 * up y) + (dn L + dn S))
    exact = omega (arith, minus (pos Kn *ℤ (pos 65536 *ℤ y) -ℤ L) S, minus (pos Kn *ℤ (pos 65536 *ℤ y)) L, scaled Kn (pos 65536 *ℤ y), ap (λ (z : ℕ). Kn * z) (scaled 65536 y))

    join : (e E l s L S y : D) → e.0 + (65536 * y.1 + (l.0 + s.0)) ≡ e.1 + (65536 * y.0 + (l.1 + s.1)) → E.0 + (Kn * (65536 * y.1) + (L.0 + S.0)) ≡ E.1 + (Kn * (65536 * y.0) + (L.1 + S.1)) → Same (add_d (err Kn e E) (add_d (err Kn l L) (err Kn s S))) zero_d
    join e E l s L S y h k = omega (arith, ap (λ (z : ℕ). Kn * z) h)

-- from below and from above
abbrev pub Both : ℕ → D → D → Type 0
Both e u v = Above e u v × Above e (neg_d u) (neg_d v)

-- the new error is the average of the corrected number's and the other's, and half a unit
module _ (even : Bool) (Kn A B : ℕ) (hAB : 65536 * A + 65536 * B ≡ 4294967296) (e E l L s S l' L' : ℤ) (hl : Same (parts l') (add_d (parts l) (parts (share even A e)))) (hL : L' ≡ pos 4294967296 *ℤ L +ℤ pos (65536 * A) *ℤ E) (hE : Same (add_d (err Kn (parts e) (parts E)) (add_d (err Kn (parts l) (parts L)) (err Kn (parts s) (parts S)))) zero_d) where
  h_l' : Same (parts L') (add_d (scale_d 4294967296 (parts L)) (scale_d (65536 * A) (parts E)))
  h_l' = omega (arith, ap up hL, ap dn hL, sum (pos 4294967296 *ℤ L) (pos (65536 * A) *ℤ E), scaled 4294967296 L, scaled (65536 * A) E)

  pub corrected-both : Both (4294967296 * Kn) (err (4294967296 * Kn) (parts l') (parts L')) (mix (65536 * B) (err Kn (parts l) (parts L)) (65536 * A) (neg_d (err Kn (parts s) (parts S))))
  corrected-both = (
    corrected Kn (65536 * A) (65536 * B) (parts e) (parts E) (parts l) (parts L) (parts s) (parts S) (parts l') (parts L') (parts (share even A e)) hAB hl h_l' hE
        (omega (arith, share-above even A e, scaled A e)),
    corrected Kn (65536 * A) (65536 * B) (neg_d (parts e)) (neg_d (parts E)) (neg_d (parts l)) (neg_d (parts L)) (neg_d (parts s)) (neg_d (parts S)) (neg_d (parts l')) (neg_d (parts L')) (neg_d (parts (share even A e))) hAB (sym hl) (sym h_l') (sym hE)
        (omega (arith, share-below even A e, scaled A e)),
  )
