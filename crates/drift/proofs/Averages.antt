-- The averaging system, on one side. A number is a pair (up, down) of naturals that stands for up − down; each fact is one of naturals.
-- K is one, A + B ≡ K and G + C ≡ K are the gains, M is one grain.
use mathlib.Core.Path.{◌≡◌, ap}
use mathlib.Core.Logic.{◌≢◌}
use Prim.Native.Nat.{ℕ, suc, ◌+◌, ◌*◌, ◌≤◌, ◌<◌}
use native.Mathlib.Nat.{mul-le-mul_left}
use native.Mathlib.Decide.{ℕ_discrete}
use native.Mathlib.Omega.{arith}

abbrev pub D : Type 0
D = ℕ × ℕ

abbrev pub neg_d : D → D
neg_d x = (x.1, x.0)

-- 2u ≥ 2v − e
abbrev pub Above : ℕ → D → D → Type 0
Above e u v = 2 * v.0 + 2 * u.1 ≤ 2 * u.0 + 2 * v.1 + e

abbrev pub mix : ℕ → D → ℕ → D → D
mix B d A t = (B * d.0 + A * t.0, B * d.1 + A * t.1)

abbrev pub zero_d : D
zero_d = (0, 0)

-- the two are one number
abbrev pub Same : D → D → Type 0
Same u v = u.0 + v.1 ≡ u.1 + v.0

abbrev pub scale_d : ℕ → D → D
scale_d k d = (k * d.0, k * d.1)

-- ---- half a grain for each reading
pub half-mix : (K A B M n : ℕ) (d t d' : D) → A + B ≡ K → Above (n * M) d zero_d → Above (n * M) t zero_d → Above (K * M) d' (mix B d A t) → Above (suc n * (K * M)) d' zero_d
half-mix K A B M n d t d' e hd ht h =
    omega (arith, mul-le-mul_left B hd, mul-le-mul_left A ht, ap (λ (z : ℕ). z * (n * M)) e)

pub half-keep : (K M n : ℕ) (t t' : D) → Above (n * M) t zero_d → Same t' (scale_d K t) → Above (suc n * (K * M)) t' zero_d
half-keep K M n t t' h e = omega (arith, mul-le-mul_left K h)

-- ---- no season: 2A|d| ≤ K M
pub plain-mix : (K A B M : ℕ) (d t d' : D) → A + B ≡ K → 2 * A * d.1 ≤ 2 * A * d.0 + K * M → Same t zero_d → Above (K * M) d' (mix B d A t) → 2 * A * d'.1 ≤ 2 * A * d'.0 + K * (K * M)
plain-mix K A B M d t d' e hd ht h =
    omega (arith, mul-le-mul_left B hd, mul-le-mul_left A h, ap (λ (z : ℕ). A * A * z) ht, ap (λ (z : ℕ). z * (K * M)) e)

-- ---- with a season. p steps into the cycle the level is at least x + a − p/2, places not yet visited at least x, visited ones at least x + G a/K − p/2
pub record BoundBelow (K G m p M : ℕ) (d : D) (t : ℕ → D) (x : D) (a : ℕ) : Type 0 where
  pub lev : 2 * x.0 + 2 * a + 2 * d.1 ≤ 2 * d.0 + 2 * x.1 + p * M
  pub old : (k : ℕ) → p ≤ k → k < m → x.0 + (t k).1 ≤ (t k).0 + x.1
  pub new : (k : ℕ) → k < p → 2 * K * x.0 + 2 * G * a + 2 * K * (t k).1 ≤ 2 * K * (t k).0 + 2 * K * x.1 + p * (K * M)

-- what a reading at place p does, seen from below
pub record StepBelow (K A B G C M p : ℕ) (d : D) (t : ℕ → D) (d' : D) (t' : ℕ → D) : Type 0 where
  pub level : Above (K * M) d' (mix B d A (t p))
  pub here : Above (K * M) (t' p) (mix C (t p) G d)
  pub there : (k : ℕ) → k ≢ p → Same (t' k) (scale_d K (t k))

lev-step : (K A B M p a : ℕ) (d t d' x : D) → A + B ≡ K → 2 * x.0 + 2 * a + 2 * d.1 ≤ 2 * d.0 + 2 * x.1 + p * M → x.0 + t.1 ≤ t.0 + x.1 → Above (K * M) d' (mix B d A t) → 2 * (K * x.0) + 2 * (B * a) + 2 * d'.1 ≤ 2 * d'.0 + 2 * (K * x.1) + suc p * (K * M)
lev-step K A B M p a d t d' x e hd ht h =
    omega (arith, mul-le-mul_left B hd, mul-le-mul_left A ht, ap (λ (z : ℕ). z * (p * M)) e, ap (λ (z : ℕ). z * x.0) e, ap (λ (z : ℕ). z * x.1) e)

here-one : (K G C M p a : ℕ) (d t t' x : D) → G + C ≡ K → 2 * x.0 + 2 * a + 2 * d.1 ≤ 2 * d.0 + 2 * x.1 + p * M → x.0 + t.1 ≤ t.0 + x.1 → Above (K * M) t' (mix C t G d) → 2 * (K * x.0) + 2 * (G * a) + 2 * t'.1 ≤ 2 * t'.0 + 2 * (K * x.1) + suc p * (K * M)
here-one K G C M p a d t t' x f hd ht h =
    omega (arith, mul-le-mul_left G hd, mul-le-mul_left C ht, ap (λ (z : ℕ). z * (p * M)) f, ap (λ (z : ℕ). z * x.0) f, ap (λ (z : ℕ). z * x.1) f)

-- scale_d K, with u and v for the products, and g for G a, of which B/K is left
scaled-K : (K A B G M p a : ℕ) (t' : D) (u v : ℕ) → A + B ≡ K → 2 * u + 2 * (G * a) + 2 * t'.1 ≤ 2 * t'.0 + 2 * v + suc p * (K * M) → 2 * K * u + 2 * G * (B * a) + 2 * K * t'.1 ≤ 2 * K * t'.0 + 2 * K * v + suc p * (K * (K * M))
scaled-K K A B G M p a t' u v e h = omega (arith, mul-le-mul_left K h, ap (λ (z : ℕ). z * (G * a)) e)

here-step : (K A B G C M p a : ℕ) (d t t' x : D) → A + B ≡ K → G + C ≡ K → 2 * x.0 + 2 * a + 2 * d.1 ≤ 2 * d.0 + 2 * x.1 + p * M → x.0 + t.1 ≤ t.0 + x.1 → Above (K * M) t' (mix C t G d) → 2 * K * (K * x.0) + 2 * G * (B * a) + 2 * K * t'.1 ≤ 2 * K * t'.0 + 2 * K * (K * x.1) + suc p * (K * (K * M))
here-step K A B G C M p a d t t' x e f hd ht h =
    scaled-K K A B G M p a t' (K * x.0) (K * x.1) e (here-one K G C M p a d t t' x f hd ht h)

kept_step : (K A B G M p a : ℕ) (t t' x : D) → A + B ≡ K → 2 * K * x.0 + 2 * G * a + 2 * K * t.1 ≤ 2 * K * t.0 + 2 * K * x.1 + p * (K * M) → Same t' (scale_d K t) → 2 * K * (K * x.0) + 2 * G * (B * a) + 2 * K * t'.1 ≤ 2 * K * t'.0 + 2 * K * (K * x.1) + suc p * (K * (K * M))
kept_step K A B G M p a t t' x e h s =
    omega (arith, mul-le-mul_left K h, ap (λ (z : ℕ). K * z) s, ap (λ (z : ℕ). z * (G * a)) e)

old-step : (K : ℕ) (t t' x : D) → x.0 + t.1 ≤ t.0 + x.1 → Same t' (scale_d K t) → K * x.0 + t'.1 ≤ t'.0 + K * x.1
old-step K t t' x h s = omega (arith, mul-le-mul_left K h)

module _ (K A B G C M m p : ℕ) (e : A + B ≡ K) (f : G + C ≡ K) (hp : p < m) (d : D) (t : ℕ → D) (d' : D) (t' : ℕ → D) (w : StepBelow K A B G C M p d t d' t') (x : D) (a : ℕ) (low : BoundBelow K G m p M d t x a) where
  step-new : (k : ℕ) → k < suc p → Dec (k ≡ p) → 2 * K * (K * x.0) + 2 * G * (B * a) + 2 * K * (t' k).1 ≤ 2 * K * (t' k).0 + 2 * K * (K * x.1) + suc p * (K * (K * M))
  step-new k h (yes q) = rw q (here-step K A B G C M p a d (t p) (t' p) x e f low.lev (low.old p (omega arith) hp) w.here)
  step-new k h (no q) = kept_step K A B G M p a (t k) (t' k) x e (low.new k (omega arith)) (w.there k q)

  step-old : (k : ℕ) → suc p ≤ k → k < m → K * x.0 + (t' k).1 ≤ (t' k).0 + K * x.1
  step-old k h l = old-step K (t k) (t' k) x (low.old k (omega arith) l) (w.there k (omega arith))

  pub low_step : BoundBelow K G m (suc p) (K * M) d' t' (scale_d K x) (B * a)
  low_step =
      record {
        lev = lev-step K A B M p a d (t p) d' x e low.lev (low.old p (omega arith) hp) w.level;
        old = step-old;
        new = λ k h. step-new k h (ℕ_discrete k p);
      }
