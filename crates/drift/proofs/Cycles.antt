-- The two-sided invariant over cycles: one step, the wrap, and what it says of a forecast.
use mathlib.Core.Path.{◌≡◌, ◌∙◌, ap}
use Prim.Native.Nat.{ℕ, suc, ◌+◌, ◌*◌, ◌-◌, ◌^◌, ◌≤◌, ◌<◌}
use native.Mathlib.Nat.{mul-le-mul_left, mul-pos, pow-suc, pow-zero}
use native.Mathlib.Omega.{arith}
use Rattle.drift.proofs.Averages.{D, neg_d, Above, mix, Same, scale_d, BoundBelow, StepBelow, low_step}

abbrev pub negs : (ℕ → D) → ℕ → D
negs t k = neg_d (t k)

pub record CycleInvariant (K B G m Kn p : ℕ) (δ : D) (τ : ℕ → D) : Type 0 where
  pub s : ℕ
  pub M : ℕ
  pub d : D
  pub t : ℕ → D
  pub x : D
  pub y : D
  pub a : ℕ
  pub b : ℕ
  pub w : ℕ
  pub q : ℕ
  pub some : 0 < s
  pub grain : M ≡ s * Kn
  pub lvl : Same d (scale_d s δ)
  pub sea : (k : ℕ) → Same (t k) (scale_d s (τ k))
  pub place : p + q ≡ m
  pub below : BoundBelow K G m p M d t x a
  pub above : BoundBelow K G m p M (neg_d d) (negs t) y b
  pub sum : x.0 + y.0 + w ≡ x.1 + y.1
  pub wide : G * B ^ m * w ≡ m * K ^ suc m * M
  pub gap : G * B ^ q * (a + b) ≡ m * K ^ suc q * M

-- ---- a reading, scaled
scale-above : (K Kn M s B A : ℕ) (δ τ δ' d t : D) → M ≡ s * Kn → Same d (scale_d s δ) → Same t (scale_d s τ) → Above (K * Kn) δ' (mix B δ A τ) → Above (K * M) (scale_d s δ') (mix B d A t)
scale-above K Kn M s B A δ τ δ' d t g l e h =
    omega (arith, mul-le-mul_left s h, ap (λ (z : ℕ). B * z) l, ap (λ (z : ℕ). A * z) e, ap (λ (z : ℕ). K * z) g)

scale_same : (K s : ℕ) (τ τ' t : D) → Same t (scale_d s τ) → Same τ' (scale_d K τ) → Same (scale_d s τ') (scale_d K t)
scale_same K s τ τ' t e h = omega (arith, ap (λ (z : ℕ). K * z) e, ap (λ (z : ℕ). s * z) h)

pub scale-down : (K A B G C Kn M s p : ℕ) (δ : D) (τ : ℕ → D) (δ' : D) (τ' : ℕ → D) (d : D) (t : ℕ → D) → M ≡ s * Kn → Same d (scale_d s δ) → ((k : ℕ) → Same (t k) (scale_d s (τ k))) → StepBelow K A B G C Kn p δ τ δ' τ' → StepBelow K A B G C M p d t (scale_d s δ') (λ k. scale_d s (τ' k))
scale-down K A B G C Kn M s p δ τ δ' τ' d t g l e w =
    record {
      level = scale-above K Kn M s B A δ (τ p) δ' d (t p) g l (e p) w.level;
      here = scale-above K Kn M s C G (τ p) δ (τ' p) (t p) d g (e p) l w.here;
      there = λ k h. scale_same K s (τ k) (τ' k) (t k) (e k) (w.there k h);
    }

-- ---- a step that stays in the cycle (or ends it: p is then m)
sum-scaled : (K : ℕ) (x y : D) (w : ℕ) → x.0 + y.0 + w ≡ x.1 + y.1 → K * x.0 + K * y.0 + K * w ≡ K * x.1 + K * y.1
sum-scaled K x y w h = omega (arith, ap (λ (z : ℕ). K * z) h)

wide-scaled : (c j w K M : ℕ) → c * w ≡ j * M → c * (K * w) ≡ j * (K * M)
wide-scaled c j w K M h = omega (arith, ap (λ (z : ℕ). K * z) h)

gap-ring : (G B K m M a b bq kq : ℕ) → G * (bq * B) * (a + b) ≡ m * (kq * K) * M → G * bq * (B * a + B * b) ≡ m * kq * (K * M)
gap-ring G B K m M a b bq kq h = omega arith

gap_step : (G B K m M a b q r : ℕ) → q ≡ suc r → G * B ^ q * (a + b) ≡ m * K ^ suc q * M → G * B ^ r * (B * a + B * b) ≡ m * K ^ suc r * (K * M)
gap_step G B K m M a b q r e h =
    gap-ring G B K m M a b (B ^ r) (K ^ suc r)
    (rw (e, pow-suc B r, pow-suc K (suc r)) at h)

pub inv-step : (K A B G C m Kn p : ℕ) (δ : D) (τ : ℕ → D) (δ' : D) (τ' : ℕ → D) → A + B ≡ K → G + C ≡ K → p < m → StepBelow K A B G C Kn p δ τ δ' τ' → StepBelow K A B G C Kn p (neg_d δ) (negs τ) (neg_d δ') (negs τ') → CycleInvariant K B G m Kn p δ τ → CycleInvariant K B G m (K * Kn) (suc p) δ' τ'
inv-step K A B G C m Kn p δ τ δ' τ' e f hp lo hi i =
    record {
      s = i.s;
      M = K * i.M;
      d = scale_d i.s δ';
      t = λ k. scale_d i.s (τ' k);
      x = scale_d K i.x;
      y = scale_d K i.y;
      a = B * i.a;
      b = B * i.b;
      w = K * i.w;
      q = i.q - 1;
      some = i.some;
      grain = grain' i.M i.s i.grain;
      lvl = omega arith;
      sea = λ k. omega arith;
      place = season' i.q i.place;
      below = low_step K A B G C i.M m p e f hp i.d i.t (scale_d i.s δ') (λ k. scale_d i.s (τ' k)) (scale-down K A B G C Kn i.M i.s p δ τ δ' τ' i.d i.t i.grain i.lvl i.sea lo) i.x i.a i.below;
      above = low_step K A B G C i.M m p e f hp (neg_d i.d) (negs i.t) (neg_d (scale_d i.s δ')) (λ k. neg_d (scale_d i.s (τ' k))) (scale-down K A B G C Kn i.M i.s p (neg_d δ) (negs τ) (neg_d δ') (negs τ') (neg_d i.d) (negs i.t) i.grain (turn i.d (scale_d i.s δ) i.lvl) (λ k. turn (i.t k) (scale_d i.s (τ k)) (i.sea k)) hi) i.y i.b i.above;
      sum = sum-scaled K i.x i.y i.w i.sum;
      wide = wide-scaled (G * B ^ m) (m * K ^ suc m) i.w K i.M i.wide;
      gap = gap_step G B K m i.M i.a i.b i.q (i.q - 1) (left i.q i.place) i.gap;
    }
  where
    grain' : (M s : ℕ) → M ≡ s * Kn → K * M ≡ s * (K * Kn)
    grain' M s g = omega (arith, ap (λ (z : ℕ). K * z) g)

    season' : (q : ℕ) → p + q ≡ m → suc p + (q - 1) ≡ m
    season' q h = omega arith

    left : (q : ℕ) → p + q ≡ m → q ≡ suc (q - 1)
    left q h = omega arith

    turn : (u v : D) → Same u v → Same (neg_d u) (neg_d v)
    turn u v h = omega arith

-- ---- the wrap: at p = m all is in a new interval of the same width, at 2K scale_d the scale
abbrev raised : ℕ → ℕ → ℕ → ℕ → D → ℕ → D
raised K G m M x a = (2 * K * x.0 + 2 * G * a, 2 * K * x.1 + m * (K * M))

room : ℕ → D → D → ℕ
room J d x = (J * d.0 + x.1) - (J * d.1 + x.0)

room-is : (K G C m M a : ℕ) (d x : D) → G + C ≡ K → 2 * x.0 + 2 * a + 2 * d.1 ≤ 2 * d.0 + 2 * x.1 + m * M → room (2 * K) d (raised K G m M x a) + (2 * K * d.1 + (2 * K * x.0 + 2 * G * a)) ≡ 2 * K * d.0 + (2 * K * x.1 + m * (K * M))
unfolding room
room-is K G C m M a d x f h = whole (2 * K * d.0 + (2 * K * x.1 + m * (K * M))) (2 * K * d.1 + (2 * K * x.0 + 2 * G * a)) fits
  where
    fits : 2 * K * d.1 + (2 * K * x.0 + 2 * G * a) ≤ 2 * K * d.0 + (2 * K * x.1 + m * (K * M))
    fits = omega (arith, mul-le-mul_left K h, ap (λ (z : ℕ). z * a) f)

    whole : (u v : ℕ) → v ≤ u → (u - v) + v ≡ u
    whole u v l = omega arith

low-wrap : (K G C m M : ℕ) (d : D) (t : ℕ → D) (x : D) (a : ℕ) → G + C ≡ K → BoundBelow K G m m M d t x a → BoundBelow K G m 0 (2 * K * M) (scale_d (2 * K) d) (λ k. scale_d (2 * K) (t k)) (raised K G m M x a) (room (2 * K) d (raised K G m M x a))
low-wrap K G C m M d t x a f low =
    record {
      lev = lev' (2 * K * d.0) (2 * K * d.1) (2 * K * x.0 + 2 * G * a) (2 * K * x.1 + m * (K * M)) (room (2 * K) d (raised K G m M x a)) (2 * K * M) (room-is K G C m M a d x f low.lev);
      old = λ k z h. old' (t k) (low.new k h);
      new = λ k h. absurd (none k h);
    }
  where
    lev' : (d0 d1 x0 x1 r M' : ℕ) → r + (d1 + x0) ≡ d0 + x1 → 2 * x0 + 2 * r + 2 * d1 ≤ 2 * d0 + 2 * x1 + 0 * M'
    lev' d0 d1 x0 x1 r M' h = omega arith

    old' : (u : D) → 2 * K * x.0 + 2 * G * a + 2 * K * u.1 ≤ 2 * K * u.0 + 2 * K * x.1 + m * (K * M) → (2 * K * x.0 + 2 * G * a) + 2 * K * u.1 ≤ 2 * K * u.0 + (2 * K * x.1 + m * (K * M))
    old' u h = omega arith

    none : (k : ℕ) → k < 0 → ⊥
    none k h = omega arith

-- at the wrap the gap is m grains
gap-end : (G B K m M a b q : ℕ) → q ≡ 0 → G * B ^ q * (a + b) ≡ m * K ^ suc q * M → G * (a + b) ≡ m * (K * M)
gap-end G B K m M a b q e h = go (B ^ 0) (K ^ 1) (pow-zero B) (pow-suc K 0 ∙ ap (λ (z : ℕ). z * K) (pow-zero K)) (rw e at h)
  where
    go : (o k : ℕ) → o ≡ 1 → k ≡ 1 * K → G * o * (a + b) ≡ m * k * M → G * (a + b) ≡ m * (K * M)
    go o k p r h = ring (rw (p, r) at h)
      where
        ring : G * 1 * (a + b) ≡ m * (1 * K) * M → G * (a + b) ≡ m * (K * M)
        ring h = omega arith

sum-wrap : (K G m M a b w : ℕ) (x y : D) → x.0 + y.0 + w ≡ x.1 + y.1 → G * (a + b) ≡ m * (K * M) → (2 * K * x.0 + 2 * G * a) + (2 * K * y.0 + 2 * G * b) + 2 * K * w ≡ (2 * K * x.1 + m * (K * M)) + (2 * K * y.1 + m * (K * M))
sum-wrap K G m M a b w x y h g = omega (arith, ap (λ (z : ℕ). K * z) h)

-- the two rooms make up the width
rooms : (d0 d1 x0 x1 y0 y1 w r l : ℕ) → r + (d1 + x0) ≡ d0 + x1 → l + (d0 + y0) ≡ d1 + y1 → x0 + y0 + w ≡ x1 + y1 → r + l ≡ w
rooms d0 d1 x0 x1 y0 y1 w r l h k s = omega arith

module _ (K B G C m Kn : ℕ) (f : G + C ≡ K) (K> : 0 < K) (δ : D) (τ : ℕ → D) (i : CycleInvariant K B G m Kn m δ τ) where
  end : i.q ≡ 0
  end = omega (arith, i.place)

  gap-m : G * (i.a + i.b) ≡ m * (K * i.M)
  gap-m = gap-end G B K m i.M i.a i.b i.q end i.gap

  x' : D
  x' = raised K G m i.M i.x i.a

  y' : D
  y' = raised K G m i.M i.y i.b

  a' : ℕ
  a' = room (2 * K) i.d x'

  b' : ℕ
  b' = room (2 * K) (neg_d i.d) y'

  sum' : x'.0 + y'.0 + 2 * K * i.w ≡ x'.1 + y'.1
  unfolding x' y'
  sum' = sum-wrap K G m i.M i.a i.b i.w i.x i.y i.sum gap-m

  rooms' : a' + b' ≡ 2 * K * i.w
  unfolding x' y' a' b'
  rooms' =
      rooms (2 * K * i.d.0) (2 * K * i.d.1) x'.0 x'.1 y'.0 y'.1 (2 * K * i.w) a' b'
      (room-is K G C m i.M i.a i.d i.x f i.below.lev)
      (room-is K G C m i.M i.b (neg_d i.d) i.y f i.above.lev)
      sum'

  scaled : (J s : ℕ) (u v : D) → Same u (scale_d s v) → Same (scale_d J u) (scale_d (J * s) v)
  scaled J s u v h = omega (arith, ap (λ (z : ℕ). J * z) h)

  wide' : G * B ^ m * (2 * K * i.w) ≡ m * K ^ suc m * (2 * K * i.M)
  wide' = wide-scaled (G * B ^ m) (m * K ^ suc m) i.w (2 * K) i.M i.wide

  pub inv-wrap : CycleInvariant K B G m Kn 0 δ τ
  unfolding x' y' a' b'
  inv-wrap =
      record {
        s = 2 * K * i.s;
        M = 2 * K * i.M;
        d = scale_d (2 * K) i.d;
        t = λ k. scale_d (2 * K) (i.t k);
        x = x';
        y = y';
        a = a';
        b = b';
        w = 2 * K * i.w;
        q = m;
        some = some' i.s i.some;
        grain = grain' i.M i.s i.grain;
        lvl = scaled (2 * K) i.s i.d δ i.lvl;
        sea = λ k. scaled (2 * K) i.s (i.t k) (τ k) (i.sea k);
        place = omega arith;
        below = low-wrap K G C m i.M i.d i.t i.x i.a f i.below;
        above = low-wrap K G C m i.M (neg_d i.d) (negs i.t) i.y i.b f i.above;
        sum = sum';
        wide = wide';
        gap = ap (λ (z : ℕ). G * B ^ m * z) rooms' ∙ wide';
      }
    where
      some' : (s : ℕ) → 0 < s → 0 < 2 * K * s
      some' s h = mul-pos (omega arith) h

      grain' : (M s : ℕ) → M ≡ s * Kn → 2 * K * M ≡ 2 * K * s * Kn
      grain' M s g = omega (arith, ap (λ (z : ℕ). K * z) g)
