-- From the invariant to the limits: a level, a season value, a forecast.
use mathlib.Core.Path.{◌≡◌, refl, sym, ap, ap₂}
use mathlib.Core.Bool.{Bool, true, false, cond, false≢true}
use Prim.Native.Nat.{ℕ, zero, suc, ◌+◌, ◌*◌, ◌-◌, ◌%◌, ◌^◌, ◌≤◌, ◌<◌}
use native.Mathlib.Nat.{mul_comm, mul-le-mul_left, le_of_mul-le-mul_left, mod-lt, le_of_lt, pow-zero, pow-suc, pow-succ', one-le-pow}
use lib.Pow.{pow-add}
use native.Mathlib.Decide.{dec_le}
use native.Mathlib.Omega.{arith}
use lib.IntN.{ℤ, pos, negsuc, neg_ℤ, nat_abs, ◌+ℤ◌, ◌-ℤ◌, ◌*ℤ◌, zero-*ℤ}
use lib.ListN.{get_or}
use Rattle.integers.proofs.Difference.{diff, known, sum, minus, scaled}
use Rattle.calendars.specs.Calendars.{Calendar}
use Rattle.models.specs.Models.{has_season, ties_to_even}
use Rattle.state.specs.declared.State.{State}
use Rattle.ets.proofs.CalendarLaws.{Followed}
use Rattle.forecasts.specs.Forecasts.{trend_line, season_at, forecast_of}
use Rattle.forecasts.specs.Calendars.{place_from, place_by, forecast_by}
use Rattle.drift.proofs.Averages.{D, zero_d, Same}
use Rattle.drift.proofs.Spread.{spread-up, spread-down, more}
use Rattle.drift.proofs.Errors.{parts, add_d, err, Both}
use Rattle.state.proofs.Passing.{no_trend, with_season}
use Rattle.drift.proofs.Readings.{power, even, value_at, level_err, season_err}
use Rattle.drift.proofs.ForecastErrors.{flat_line}
use Rattle.drift.proofs.Turns.{day-seasonal, place_in}
use Rattle.drift.proofs.Invariant.{Good}
use Rattle.drift.specs.Exact.{Parameters, parameters_of, Exact, exponent, exact_trend_at, exact_line, exact_forecast, exact_forecast_by, forecast_is, expected_forecast, expected_forecast_by}
use Rattle.drift.specs.Limits.{AtMost, HalfPerReading, PlainBound, divisor, SeasonalBound, WithinLimit}

-- c |z| ≤ e where z is d
sized : (c e : ℕ) (z : ℤ) (d : D) → Same (parts z) d → c * d.0 ≤ c * d.1 + e → c * d.1 ≤ c * d.0 + e → c * nat_abs z ≤ e
sized c e (pos n) d s h k = omega (arith, ap (λ (z : ℕ). c * z) s)
sized c e (negsuc n) d s h k = omega (arith, ap (λ (z : ℕ). c * z) s)

within : (num den n : ℕ) (z Z : ℤ) (d : D) → Same (err (65536 ^ n) (parts z) (parts Z)) d → den * d.0 ≤ den * d.1 + num * 65536 ^ n → den * d.1 ≤ den * d.0 + num * 65536 ^ n → AtMost num den n z Z
unfolding AtMost
within num den n z Z d s h k =
    sized den (num * 65536 ^ n) (pos (65536 ^ n) *ℤ z -ℤ Z) d (difference (65536 ^ n) s) h k
  where
    difference : (P : ℕ) → Same (err P (parts z) (parts Z)) d → Same (parts (pos P *ℤ z -ℤ Z)) d
    difference P s = omega (arith, minus (pos P *ℤ z) Z, scaled P z)

half : (n : ℕ) (z Z : ℤ) → Both (n * 65536 ^ (2 * n)) (err (65536 ^ (2 * n)) (parts z) (parts Z)) zero_d → HalfPerReading n z Z
half n z Z w = within n 2 (2 * n) z Z (err (65536 ^ (2 * n)) (parts z) (parts Z)) (omega arith) (omega arith) (omega arith)

pub level-half : (c : Parameters) (s : State) (x : Exact) → Good c s x → HalfPerReading x.n s.level x.L
level-half c s x w = half x.n s.level x.L w.level

pub value-half : (c : Parameters) (s : State) (x : Exact) → Good c s x → (k : ℕ) → HalfPerReading x.n (value_at s k) (x.S k)
value-half c s x w k = half x.n (value_at s k) (x.S k) ((w.places k).1, (w.places k).0)

-- ---- a limit that divides by 0
unlimited : (c : Parameters) (n : ℕ) (z Z : ℤ) → divisor c ≡ 0 → SeasonalBound c n z Z
unfolding AtMost
unlimited c n z Z h = rw h (omega arith)

zero-power : (n : ℕ) → 0 < n → 0 ^ n ≡ 0
zero-power zero h = elim h [ ]
zero-power (suc n) h = rw (pow-suc 0 n) (omega arith)

-- ---- forecasts
-- the error of a sum, and by cases on the season, which is b
both : (Kn : ℕ) (f l v F L U : ℤ) → f ≡ l +ℤ v → F ≡ L +ℤ U → Same (err Kn (parts f) (parts F)) (add_d (err Kn (parts l) (parts L)) (err Kn (parts v) (parts U)))
both Kn f l v F L U e g = rw (e, g) (omega (arith, ap (λ (z : ℕ). Kn * z) (sum l v), sum L U))

unseasonal : (b : Bool) (Kn : ℕ) (v S : ℤ) (u d : D) → b ≡ false → Same u (add_d d (err Kn (parts (cond b v (pos 0))) (parts (cond b S (pos 0))))) → Same u d
unseasonal true Kn v S u d h e = absurd (false≢true (sym h))
unseasonal false Kn v S u d h e = omega arith

seasonal : (b : Bool) (Kn : ℕ) (v S : ℤ) (u d : D) → b ≡ true → Same u (add_d d (err Kn (parts v) (parts (cond b S (pos 0))))) → Same u (add_d d (err Kn (parts v) (parts S)))
seasonal true Kn v S u d h e = e
seasonal false Kn v S u d h e = absurd (false≢true h)

-- the invariant has the gains times 65536, and 65536 squared for one
narrower : (A P u v : ℕ) → 2 * (65536 * A) * u ≤ 2 * (65536 * A) * v + 4294967296 * P → 2 * A * u ≤ 2 * A * v + 65536 * P
narrower A P u v h = omega arith

pow-mul : (a b n : ℕ) → (a * b) ^ n ≡ a ^ n * b ^ n
pow-mul a b zero = rw (pow-zero (a * b), pow-zero a, pow-zero b)
pow-mul a b (suc n) = rw (pow-suc (a * b) n, pow-suc a n, pow-suc b n, pow-mul a b n) (ring (a ^ n) (b ^ n))
  where
    ring : (p q : ℕ) → p * q * (a * b) ≡ p * a * (q * b)
    ring p q = omega arith

narrow : (G B m P u v : ℕ) → 65536 * G * (65536 * B) ^ m * u ≤ 65536 * G * (65536 * B) ^ m * v + (m * (65536 * G * (65536 * B) ^ m) + m * 4294967296 ^ suc m) * P → G * B ^ m * u ≤ G * B ^ m * v + (m * (G * B ^ m) + m * 65536 ^ suc m) * P
narrow G B m P u v h =
    rw (pow-suc 65536 m)
    (go (65536 ^ m) (B ^ m) (one-le-pow m 65536 (omega arith)) (rw (pow-mul 65536 B m, pow-mul 65536 65536 (suc m), pow-suc 65536 m) at h))
  where
    go : (q b : ℕ) → 0 < q → 65536 * G * (q * b) * u ≤ 65536 * G * (q * b) * v + (m * (65536 * G * (q * b)) + m * (q * 65536 * (q * 65536))) * P → G * b * u ≤ G * b * v + (m * (G * b) + m * (q * 65536)) * P
    go q b z h = le_of_mul-le-mul_left (ring h) z
      where
        ring : 65536 * G * (q * b) * u ≤ 65536 * G * (q * b) * v + (m * (65536 * G * (q * b)) + m * (q * 65536 * (q * 65536))) * P → q * (G * b * u) ≤ q * (G * b * v + (m * (G * b) + m * (q * 65536)) * P)
        ring h = omega arith

-- ---- a limit over another power
turned : (n : ℕ) → nat_abs (neg_ℤ (pos n)) ≡ n
turned zero = refl
turned (suc n) = refl

times : (Q : ℕ) (z : ℤ) → nat_abs (pos Q *ℤ z) ≡ Q * nat_abs z
times Q (pos a) = refl
times Q (negsuc a) = turned (Q * suc a)

apart : (Q P : ℕ) (z Z : ℤ) → pos (Q * P) *ℤ z -ℤ pos Q *ℤ Z ≡ pos Q *ℤ (pos P *ℤ z -ℤ Z)
apart Q P z Z = rw (known z, known Z) (simp diff (omega arith))

stretch : (num den k h : ℕ) (z Z : ℤ) → AtMost num den k z Z → AtMost num den (k + h) z (pos (65536 ^ h) *ℤ Z)
unfolding AtMost
stretch num den k h z Z b =
    rw (pow-add 65536 k h, mul_comm (65536 ^ k) (65536 ^ h), apart (65536 ^ h) (65536 ^ k) z Z, times (65536 ^ h) (pos (65536 ^ k) *ℤ z -ℤ Z))
    (more_of (65536 ^ h) (nat_abs (pos (65536 ^ k) *ℤ z -ℤ Z)) (65536 ^ k) b)
  where
    more_of : (Q a P : ℕ) → den * a ≤ num * P → den * (Q * a) ≤ num * (Q * P)
    more_of Q a P h = omega (arith, mul-le-mul_left Q h)

-- without trend the exact forecast is L and the season's value, brought to its power
line-law : (Q : ℕ) (z d : ℤ) → d ≡ pos 0 → pos 65536 *ℤ (pos Q *ℤ z) +ℤ d ≡ pos (65536 * Q) *ℤ z
line-law Q z d h = rw (h, known z) (simp diff (omega arith))

no-trend-at : (F : ℕ) (b : ℤ) (j : ℕ) → F ≡ 0 → exact_trend_at F b (suc j) ≡ pos 0
unfolding exact_trend_at
no-trend-at F b j h = rw h (zero-*ℤ (exact_trend_at F b j))

line-is : (c : Parameters) (x : Exact) → c.phi ≡ 0 → (h : ℕ) → exact_line c x h ≡ pos (65536 ^ h) *ℤ x.L
unfolding exact_line
line-is c x e zero = rw (known x.L) (simp diff (omega arith))
line-is c x e (suc h) =
    rw (line-is c x e h, pow-succ' 65536 h) (line-law (65536 ^ h) x.L (exact_trend_at c.phi x.T (suc h)) (no-trend-at c.phi x.T h e))

spread : (Q : ℕ) (l v : ℤ) → pos Q *ℤ l +ℤ pos Q *ℤ v ≡ pos Q *ℤ (l +ℤ v)
spread Q l v = rw (known l, known v) (simp diff (omega arith))

-- ---- the forecast with the season's value at a place
module _ (s : State) (x : Exact) (w : Good (parameters_of s) s x) (at : ℕ) (inside : has_season s.model ≡ true → at < s.period) where
  f : ℤ
  f = s.level +ℤ value_at s at

  F : ℤ
  F = x.L +ℤ cond (has_season s.model) (x.S at) (pos 0)

  exact : (h : ℕ) → exact_line (parameters_of s) x h +ℤ pos (65536 ^ h) *ℤ cond (has_season s.model) (x.S at) (pos 0) ≡ pos (65536 ^ h) *ℤ F
  unfolding F
  exact h =
      rw (line-is (parameters_of s) x (no_trend s w.passes w.flat).phi h)
      (spread (65536 ^ h) x.L (cond (has_season s.model) (x.S at) (pos 0)))

  error : Same (err (power x) (parts f) (parts F)) (add_d (level_err s x) (err (power x) (parts (value_at s at)) (parts (cond (has_season s.model) (x.S at) (pos 0)))))
  unfolding f F
  error = both (power x) f s.level (value_at s at) F x.L (cond (has_season s.model) (x.S at) (pos 0)) refl refl

  plain : has_season s.model ≡ false → PlainBound (parameters_of s) (2 * x.n) f F
  plain ns =
      within 65536 (2 * s.alpha) (2 * x.n) f F δ
      (unseasonal (has_season s.model) (power x) (get_or s.seasonal at (pos 0)) (x.S at) (err (power x) (parts f) (parts F)) δ ns error)
      (narrower s.alpha (power x) δ.0 δ.1 (w.plain ns).1)
      (narrower s.alpha (power x) δ.1 δ.0 (w.plain ns).0)
    where
      δ : D
      δ = level_err s x

  of-season : has_season s.model ≡ true → 0 < s.gamma → s.alpha < 65536 → x.missed ≡ 0 → x.changed ≡ 0 → SeasonalBound (parameters_of s) (2 * x.n) f F
  of-season ss g a z u =
      within (s.period * c + 2 * j) c (2 * x.n) f F (up', dn')
      (seasonal (has_season s.model) (power x) (value_at s at) (x.S at) (err (power x) (parts f) (parts F)) (level_err s x) ss error)
      (more (c * up') (c * dn') s.period c j (power x) (narrow s.gamma (65536 - s.alpha) s.period (power x) up' dn' (spread-up 4294967296 (65536 * (65536 - s.alpha)) (65536 * s.gamma) s.period (power x) s.index (omega arith) (le_of_lt lt) (level_err s x) (season_err s x) (w.cycle ss a g z u) at (inside ss))))
      (more (c * dn') (c * up') s.period c j (power x) (narrow s.gamma (65536 - s.alpha) s.period (power x) dn' up' (spread-down 4294967296 (65536 * (65536 - s.alpha)) (65536 * s.gamma) s.period (power x) s.index (omega arith) (le_of_lt lt) (level_err s x) (season_err s x) (w.cycle ss a g z u) at (inside ss))))
    where
      c : ℕ
      c = s.gamma * (65536 - s.alpha) ^ s.period

      j : ℕ
      j = s.period * 65536 ^ suc s.period

      up' : ℕ
      up' = (level_err s x).0 + (season_err s x at).1

      dn' : ℕ
      dn' = (level_err s x).1 + (season_err s x at).0

      lt : s.index < s.period
      lt = (with_season s w.passes ss).index

  any-gain : has_season s.model ≡ true → x.missed ≡ 0 → x.changed ≡ 0 → SeasonalBound (parameters_of s) (2 * x.n) f F
  any-gain ss z u = by-gains (dec_le 1 s.gamma) (dec_le (suc s.alpha) 65536)
    where
      by-gains : Dec (1 ≤ s.gamma) → Dec (suc s.alpha ≤ 65536) → SeasonalBound (parameters_of s) (2 * x.n) f F
      by-gains (yes g) (yes a) = of-season ss (omega arith) (omega arith) z u
      by-gains (no g) d = let e : s.gamma ≡ 0 = omega arith in unlimited (parameters_of s) (2 * x.n) f F (rw e (omega arith))
      by-gains (yes g) (no a) =
          let e : 65536 - s.alpha ≡ 0 = omega arith in
          unlimited (parameters_of s) (2 * x.n) f F (rw (e, zero-power s.period (omega (arith, (with_season s w.passes ss).index))) (omega arith))

  -- the forecast v and the exact one, at a place q that is the same
  close : (h : ℕ) (v : ℤ) (q : ℕ) → v ≡ f → q ≡ at → WithinLimit (parameters_of s) v (forecast_is (exact_line (parameters_of s) x h +ℤ pos (65536 ^ h) *ℤ cond (has_season s.model) (x.S q) (pos 0)) h (exponent (parameters_of s) x + h) x.missed x.changed)
  unfolding WithinLimit
  close h v q e g z =
      rw (e, g, exact h, even (parameters_of s) x w.flat)
      ((λ e. stretch 65536 (2 * s.alpha) (2 * x.n) h f F (plain e)), (λ e u. stretch _ _ (2 * x.n) h f F (any-gain e z u)))

-- ---- of document 01, and by a calendar
module _ (s : State) (x : Exact) (w : Good (parameters_of s) s x) (h : ℕ) where
  flat-is : trend_line (ties_to_even s.model) s.level s.phi s.trend h ≡ s.level
  flat-is = flat_line s (no_trend s w.passes w.flat).phi h

  pub forecast-close : WithinLimit (parameters_of s) (forecast_of s h) (expected_forecast (parameters_of s) x h)
  unfolding forecast_of season_at exact_forecast f
  forecast-close =
      close s x w ((s.index + h - 1) % s.period) (λ e. mod-lt (s.index + h - 1) (omega (arith, (with_season s w.passes e).index))) h (forecast_of s h) ((x.p + h - 1) % s.period) (ap (λ (z : ℤ). z +ℤ season_at s h) flat-is)
      (ap (λ (p : ℕ). (p + h - 1) % s.period) w.index)

  pub walk-close : (k : Calendar) → Followed s.period k → WithinLimit (parameters_of s) (forecast_by k s h) (expected_forecast_by k (parameters_of s) x h)
  unfolding forecast_by exact_forecast_by f
  walk-close k d =
      close s x w (place_by k s h) (λ e. place_in k s d w.passes h) h (forecast_by k s h) (place_from k s.period x.p x.count h)
      (ap₂ (λ (z v : ℤ). z +ℤ v) flat-is (ap (λ (b : Bool). cond b (get_or s.seasonal (place_by k s h) (pos 0)) (pos 0)) (sym (day-seasonal s w.passes d.day))))
      (ap₂ (λ (p n : ℕ). place_from k s.period p n h) w.index w.count)
