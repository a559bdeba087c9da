-- What the invariant says of a forecast, and how it starts.
use mathlib.Core.Path.{◌≡◌, refl, sym, ◌∙◌, ap, subst}
use Prim.Native.Nat.{ℕ, suc, ◌+◌, ◌*◌, ◌-◌, ◌^◌, ◌≤◌, ◌<◌}
use native.Mathlib.Nat.{mul-le-mul_left, mul-le-mul_right, mul-le-mul, mul-pos, le_of_mul-le-mul_left, pow-le-pow_left, one-le-pow}
use lib.Pow.{pow-add}
use native.Mathlib.Decide.{dec_le}
use native.Mathlib.Omega.{arith}
use Rattle.drift.proofs.Averages.{D, neg_d, zero_d, Same, scale_d, BoundBelow}
use Rattle.drift.proofs.Cycles.{CycleInvariant, negs}

low_any : (K G m p M : ℕ) (d : D) (t : ℕ → D) (x : D) (a : ℕ) → 0 < K → BoundBelow K G m p M d t x a → (k : ℕ) → k < m → Dec (p ≤ k) → 2 * x.0 + 2 * (t k).1 ≤ 2 * (t k).0 + 2 * x.1 + p * M
low_any K G m p M d t x a K> low k h (yes l) = go (t k) (low.old k l h)
  where
    go : (u : D) → x.0 + u.1 ≤ u.0 + x.1 → 2 * x.0 + 2 * u.1 ≤ 2 * u.0 + 2 * x.1 + p * M
    go u h = omega arith
low_any K G m p M d t x a K> low k h (no l) = le_of_mul-le-mul_left (go (t k) (low.new k (omega arith))) K>
  where
    go : (u : D) → 2 * K * x.0 + 2 * G * a + 2 * K * u.1 ≤ 2 * K * u.0 + 2 * K * x.1 + p * (K * M) → K * (2 * x.0 + 2 * u.1) ≤ K * (2 * u.0 + 2 * x.1 + p * M)
    go u h = omega arith

-- the level of one side against a place of the other
apart : (m p M a w : ℕ) (d t x y : D) → p ≤ m → 2 * x.0 + 2 * a + 2 * d.1 ≤ 2 * d.0 + 2 * x.1 + p * M → 2 * y.0 + 2 * t.0 ≤ 2 * t.1 + 2 * y.1 + p * M → x.0 + y.0 + w ≡ x.1 + y.1 → d.1 + t.0 ≤ d.0 + t.1 + (w + m * M)
apart m p M a w d t x y hp h k s = omega (arith, mul-le-mul_right M hp)

-- out of the scale: with e = d − t at the scale s
unscale : (c j m s M Kn w : ℕ) (δ τ d t : D) → 0 < s → M ≡ s * Kn → Same d (scale_d s δ) → Same t (scale_d s τ) → c * w ≡ j * M → d.1 + t.0 ≤ d.0 + t.1 + (w + m * M) → c * (δ.1 + τ.0) ≤ c * (δ.0 + τ.1) + (m * c + j) * Kn
unscale c j m s M Kn w δ τ d t s> g l e h k =
    le_of_mul-le-mul_left (plain (rw g at h) (rw g at k)) s>
  where
    plain : c * w ≡ j * (s * Kn) → d.1 + t.0 ≤ d.0 + t.1 + (w + m * (s * Kn)) → s * (c * (δ.1 + τ.0)) ≤ s * (c * (δ.0 + τ.1) + (m * c + j) * Kn)
    plain h k = omega (arith, mul-le-mul_left c k, ap (λ (z : ℕ). c * z) l, ap (λ (z : ℕ). c * z) e)

pub more : (u v m c j Kn : ℕ) → u ≤ v + (m * c + j) * Kn → u ≤ v + (m * c + 2 * j) * Kn
more u v m c j Kn h = omega arith

module _ (K B G m Kn p : ℕ) (K> : 0 < K) (hp : p ≤ m) (δ : D) (τ : ℕ → D) (i : CycleInvariant K B G m Kn p δ τ) (k : ℕ) (hk : k < m) where
  -- the exact forecast at place k is at most so far above the rounded one
  pub spread-down : G * B ^ m * (δ.1 + (τ k).0) ≤ G * B ^ m * (δ.0 + (τ k).1) + (m * (G * B ^ m) + m * K ^ suc m) * Kn
  spread-down =
      unscale (G * B ^ m) (m * K ^ suc m) m i.s i.M Kn i.w δ (τ k) i.d (i.t k) i.some i.grain i.lvl (i.sea k) i.wide
      (apart m p i.M i.a i.w i.d (i.t k) i.x i.y hp i.below.lev (low_any K G m p i.M (neg_d i.d) (negs i.t) i.y i.b K> i.above k hk (dec_le p k)) i.sum)

  pub spread-up : G * B ^ m * (δ.0 + (τ k).1) ≤ G * B ^ m * (δ.1 + (τ k).0) + (m * (G * B ^ m) + m * K ^ suc m) * Kn
  spread-up =
      unscale (G * B ^ m) (m * K ^ suc m) m i.s i.M Kn i.w (neg_d δ) (neg_d (τ k)) (neg_d i.d) (neg_d (i.t k)) i.some i.grain (omega (arith, i.lvl)) (omega (arith, i.sea k)) i.wide
      (apart m p i.M i.b i.w (neg_d i.d) (neg_d (i.t k)) i.y i.x hp i.above.lev (low_any K G m p i.M i.d i.t i.x i.a K> i.below k hk (dec_le p k)) (omega (arith, i.sum)))

-- ---- the start: nothing is off
module _ (K B G C m p : ℕ) (hB : B ≤ K) (f : G + C ≡ K) (B> : 0 < B) (G> : 0 < G) (hp : p ≤ m) (δ : D) (τ : ℕ → D) (hδ : Same δ zero_d) (hτ : (k : ℕ) → Same (τ k) zero_d) where
  rest : ℕ
  rest = m - p

  parts : p + rest ≡ m
  unfolding rest
  parts = omega arith

  rest-p : rest + p ≡ m
  rest-p = omega (arith, parts)

  a₀ : ℕ
  a₀ = m * K ^ suc rest * B ^ p

  w₀ : ℕ
  w₀ = m * K ^ suc m

  a-le-w : a₀ ≤ w₀
  unfolding a₀ w₀
  a-le-w =
      subst (λ (z : ℕ). m * K ^ suc rest * B ^ p ≤ m * z) whole (go (K ^ suc rest) (B ^ p) (K ^ p) (pow-le-pow_left hB p))
    where
      whole : K ^ suc rest * K ^ p ≡ K ^ suc m
      whole = sym (pow-add K (suc rest) p) ∙ ap (λ (z : ℕ). K ^ z) (omega (arith, rest-p))

      go : (u b k : ℕ) → b ≤ k → m * u * b ≤ m * (u * k)
      go u b k h = omega (arith, mul-le-mul_left (m * u) h)

  B-split : B ^ rest * B ^ p ≡ B ^ m
  B-split = sym (pow-add B rest p) ∙ ap (λ (z : ℕ). B ^ z) rest-p

  gap₀ : G * B ^ rest * (a₀ + 0) ≡ m * K ^ suc rest * (G * B ^ m * 1)
  unfolding a₀
  gap₀ = ring (B ^ rest) (B ^ p) (B ^ m) (K ^ suc rest) B-split
    where
      ring : (u v b k : ℕ) → u * v ≡ b → G * u * (m * k * v + 0) ≡ m * k * (G * b * 1)
      ring u v b k h = omega (arith, ap (λ (z : ℕ). G * m * k * z) h)

  wide₀ : G * B ^ m * w₀ ≡ m * K ^ suc m * (G * B ^ m * 1)
  unfolding w₀
  wide₀ = ring (G * B ^ m) (K ^ suc m)
    where
      ring : (c k : ℕ) → c * (m * k) ≡ m * k * (c * 1)
      ring c k = omega arith

  Ga-Kw : G * a₀ ≤ K * w₀
  Ga-Kw = mul-le-mul (omega (arith, f)) a-le-w

  start-below : (M : ℕ) → BoundBelow K G m p M zero_d (λ k. zero_d) (0, w₀) a₀
  start-below M =
      record {
        lev = lev' a₀ w₀ a-le-w;
        old = λ k h l. omega arith;
        new = λ k h. new' a₀ w₀ Ga-Kw;
      }
    where
      lev' : (a w : ℕ) → a ≤ w → 2 * 0 + 2 * a + 2 * 0 ≤ 2 * 0 + 2 * w + p * M
      lev' a w h = omega arith

      new' : (a w : ℕ) → G * a ≤ K * w → 2 * K * 0 + 2 * G * a + 2 * K * 0 ≤ 2 * K * 0 + 2 * K * w + p * (K * M)
      new' a w h = omega arith

  start-above : (M : ℕ) → BoundBelow K G m p M zero_d (λ k. zero_d) zero_d 0
  start-above M =
      record {
        lev = omega arith;
        old = λ k h l. omega arith;
        new = λ k h. omega arith;
      }

  same₀ : (u : D) (s : ℕ) → Same u zero_d → Same zero_d (scale_d s u)
  same₀ u s h = omega (arith, ap (λ (z : ℕ). s * z) h)

  pub inv-start : CycleInvariant K B G m 1 p δ τ
  inv-start =
      record {
        s = G * B ^ m;
        M = G * B ^ m * 1;
        d = zero_d;
        t = λ k. zero_d;
        x = (0, w₀);
        y = zero_d;
        a = a₀;
        b = 0;
        w = w₀;
        q = rest;
        some = mul-pos G> (one-le-pow m B B>);
        grain = refl;
        lvl = same₀ δ (G * B ^ m) hδ;
        sea = λ k. same₀ (τ k) (G * B ^ m) (hτ k);
        place = parts;
        below = start-below (G * B ^ m * 1);
        above = start-above (G * B ^ m * 1);
        sum = omega arith;
        wide = wide₀;
        gap = gap₀;
      }
