-- What a state has that the checks let pass, and that what has it passes.
use Prim.Native.Nat.{ℕ, ◌*◌, ◌<◌, ◌≤◌}
use mathlib.Core.Path.{◌≡◌, refl}
use mathlib.Core.Bool.{Bool, true, false, cond, not, ◌&&◌}
use native.Mathlib.Omega.{arith}
use lib.Dec.{eqb, ltb, leb}
use lib.IntN.{ℤ, pos, neg_ℤ}
use lib.Signed.{le_z}
use lib.ListN.{get_or}
use borrow.Author.Tests.{ltb-true, leb-true, le-leb, eqb-true, eq-eqb, ne_eqb, le-ltb, not-false}
use Rattle.integers.specs.Bounds.{Within}
use Rattle.integers.proofs.Difference.{ints}
use Rattle.integers.proofs.Bounds.{within-zero}
use Rattle.state.specs.Fixed.{within, in_range, is_reading, is_residual, is_zero, max_count}
use Rattle.models.specs.Models.{trend_of, has_trend, has_season, valid_model, period_ok, gain_ok, damping_ok, parameters_ok, usual_gains}
use Rattle.state.specs.Scores.{sum_of, sum_ok, score_ok}
use Rattle.state.specs.States.{parameters_code, trend_ok, cell_ok, seasonal_ok, index_ok, count_ok, check, no_state}
use Rattle.state.specs.Valid.{Bounded, NoTrend, NoSeason, Seasonal, Valid}
use Rattle.state.specs.declared.Score.{Score}
use Rattle.state.specs.declared.State.{State}
use Rattle.integers.proofs.Tests.{both, all_below-at}
use Rattle.state.proofs.Tests.{unless-zero, unless-then, then-zero, zero_is}

-- the checks as tests, in their order
pub record Passed (s : State) : Type 0 where
  pub model : valid_model s.model ≡ true
  pub period : period_ok s.model s.period ≡ true
  pub parameters : parameters_code s.outside s.model s.alpha s.beta s.gamma s.phi ≡ 0
  pub level : in_range s.level ≡ true
  pub trend : trend_ok s.model s.trend ≡ true
  pub seasonal : seasonal_ok s.period s.seasonal ≡ true
  pub index : index_ok s.period s.index ≡ true
  pub count : count_ok s.count ≡ true
  pub score : score_ok s.count s.score ≡ true

pub passed : (s : State) → check s ≡ 0 → Passed s
unfolding check
passed s h =
    let c5 = then-zero _ _ h in
    let c6 = then-zero _ _ c5.1 in
    let c7 = then-zero _ _ c6.1 in
    let c9 = then-zero _ _ c7.1 in
    let v2 = both _ _ (unless-zero _ 8 c9.0) in
    let v1 = both _ _ v2.0 in
    let c10 = then-zero _ _ c9.1 in
    let q = both _ _ (unless-zero _ 9 c10.0) in
    record {
      model = unless-zero _ 4 c5.0;
      period = unless-zero _ 5 c6.0;
      parameters = c7.0;
      level = v1.0;
      trend = v1.1;
      seasonal = v2.1;
      index = q.0;
      count = q.1;
      score = unless-zero _ 16 c10.1;
    }

pub passes : (s : State) → Passed s → check s ≡ 0
unfolding check
passes s p =
    rw (p.model, p.period, p.parameters, p.level, p.trend, p.seasonal, p.index, p.count, p.score)

-- each parameter by its test
pub record Allowed (model A B G F : ℕ) : Type 0 where
  pub alpha : leb A 65536 ≡ true
  pub beta : gain_ok (has_trend model) B ≡ true
  pub gamma : gain_ok (has_season model) G ≡ true
  pub phi : damping_ok (trend_of model) F ≡ true

pub each-allowed : (model A B G F : ℕ) → parameters_ok model A B G F ≡ true → Allowed model A B G F
each-allowed model A B G F h =
    let p3 = both _ _ h in
    let p2 = both _ _ p3.0 in
    let p1 = both _ _ p2.0 in
    record { alpha = p1.0; beta = p1.1; gamma = p2.1; phi = p3.1 }

parameters-ok : (outside : Bool) (model A B G F : ℕ) → parameters_code outside model A B G F ≡ 0 → parameters_ok model A B G F ≡ true
unfolding parameters_code
parameters-ok outside model A B G F h =
    (both (parameters_ok model A B G F) (not (outside && usual_gains A B G)) (unless-then _ 6 _ h).0).0

pub allowed : (s : State) → check s ≡ 0 → Allowed s.model s.alpha s.beta s.gamma s.phi
allowed s h =
    each-allowed s.model s.alpha s.beta s.gamma s.phi (parameters-ok s.outside s.model s.alpha s.beta s.gamma s.phi (passed s h).parameters)

-- each of the 48 cells
pub cell-passes : (s : State) → check s ≡ 0 → (k : ℕ) → k < 48 → cell_ok s.period k (get_or s.seasonal k (pos 0)) ≡ true
cell-passes s ok k l = all_below-at 48 (λ (j : ℕ). cell_ok s.period j (get_or s.seasonal j (pos 0))) (passed s ok).seasonal k l

-- ---- the tests as bounds
within-is : (n : ℕ) (v : ℤ) → within n v ≡ true → Within n v
within-is n v h =
    let p = both (le_z (neg_ℤ (pos n)) v) (le_z v (pos n)) h in
    omega ints

is_within : (n : ℕ) (v : ℤ) → Within n v → within n v ≡ true
is_within n v w =
    let a : le_z (neg_ℤ (pos n)) v ≡ true = omega ints in
    let b : le_z v (pos n) ≡ true = omega ints in
    rw (a, b)

pub in-range : (v : ℤ) → in_range v ≡ true → Within 1099511627776 v
in-range v h = within-is 1099511627776 v h

pub range-in : (v : ℤ) → Within 1099511627776 v → in_range v ≡ true
range-in v w = is_within 1099511627776 v w

pub is-reading : (y : ℤ) → is_reading y ≡ true → Within 1000000 y
is-reading y h = within-is 1000000 y h

pub is-residual : (e : ℤ) → is_residual e ≡ true → Within 3364070883328 e
is-residual e h = within-is 3364070883328 e h

pub residual-is : (e : ℤ) → Within 3364070883328 e → is_residual e ≡ true
residual-is e w = is_within 3364070883328 e w

zero-within : (v : ℤ) → is_zero v ≡ true → Within 1099511627776 v
zero-within v h = rw (zero_is v h) (within-zero 1099511627776)

either : (t : Bool) (v : ℤ) → cond t (in_range v) (is_zero v) ≡ true → Within 1099511627776 v
either true v h = in-range v h
either false v h = zero-within v h

gain-le : (t : Bool) (x : ℕ) → gain_ok t x ≡ true → x ≤ 65536
gain-le true x h = leb-true x 65536 h
gain-le false x h = omega (arith, eqb-true x 0 h)

damping-le : (t u : Bool) (x : ℕ) → cond t (eqb x 0) (cond u (eqb x 65536) (leb 1 x && leb x 65535)) ≡ true → x ≤ 65536
damping-le true u x h = omega (arith, eqb-true x 0 h)
damping-le false true x h = omega (arith, eqb-true x 65536 h)
damping-le false false x h = omega (arith, leb-true x 65535 (both (leb 1 x) (leb x 65535) h).1)

pub period-le : (t : Bool) (m : ℕ) → cond t (leb 2 m && leb m 48) (eqb m 0) ≡ true → m ≤ 48
period-le true m h = leb-true m 48 (both (leb 2 m) (leb m 48) h).1
period-le false m h = omega (arith, eqb-true m 0 h)

index-lt : (t : Bool) (m p : ℕ) → m ≤ 48 → cond t (eqb p 0) (ltb p m) ≡ true → p < 48
index-lt true m p l h = omega (arith, eqb-true p 0 h)
index-lt false m p l h = omega (arith, ltb-true p m h)

pub sum-le : (s : Score) → sum_ok s ≡ true → sum_of s ≤ s.readings * 4503599627370496
unfolding sum_ok
sum-le s h = leb-true (sum_of s) (s.readings * 4503599627370496) h

pub sum-ok : (s : Score) → sum_of s ≤ s.readings * 4503599627370496 → sum_ok s ≡ true
unfolding sum_ok
sum-ok s h = le-leb (sum_of s) (s.readings * 4503599627370496) h

pub bounded : (s : State) → check s ≡ 0 → Bounded s
bounded s h =
    let p = passed s h in
    let a = allowed s h in
    let m : s.period ≤ 48 = period-le (has_season s.model) s.period p.period in
    let score = both (leb s.score.readings s.count) (sum_ok s.score) p.score in
    record {
      alpha = leb-true s.alpha 65536 a.alpha;
      beta = gain-le (has_trend s.model) s.beta a.beta;
      gamma = gain-le (has_season s.model) s.gamma a.gamma;
      phi = damping-le (eqb (trend_of s.model) 0) (eqb (trend_of s.model) 1) s.phi a.phi;
      level = in-range s.level p.level;
      trend = either (has_trend s.model) s.trend p.trend;
      cells = λ k l. either (ltb k s.period) (get_or s.seasonal k (pos 0)) (cell-passes s h k l);
      period = m;
      index = index-lt (eqb s.period 0) s.period s.index m p.index;
      count = leb-true s.count max_count p.count;
      readings = leb-true s.score.readings s.count score.0;
      sum = sum-le s.score score.1;
    }

-- ---- what a model does not have is 0
pub no_trend : (s : State) → check s ≡ 0 → has_trend s.model ≡ false → NoTrend s
no_trend s ok h =
    let p = passed s ok in
    let a = allowed s ok in
    record {
      beta = eqb-true s.beta 0 (rw h at a.beta);
      phi = eqb-true s.phi 0 (rw (not-false (eqb (trend_of s.model) 0) h) at a.phi);
      trend = zero_is s.trend (rw h at p.trend);
    }

pub no_season : (s : State) → check s ≡ 0 → has_season s.model ≡ false → NoSeason s
no_season s ok h =
    let p = passed s ok in
    let m : s.period ≡ 0 = eqb-true s.period 0 (rw h at p.period) in
    record {
      period = m;
      gamma = eqb-true s.gamma 0 (rw h at (allowed s ok).gamma);
      index = eqb-true s.index 0 (rw (eq-eqb s.period 0 m) at p.index);
      cells = λ k l. zero_is (get_or s.seasonal k (pos 0)) (rw (le-ltb k s.period (omega arith)) at (cell-passes s ok k l));
    }

pub with_season : (s : State) → check s ≡ 0 → has_season s.model ≡ true → Seasonal s
with_season s ok h =
    let p = passed s ok in
    let m : 2 ≤ s.period = leb-true 2 s.period (both (leb 2 s.period) (leb s.period 48) (rw h at p.period)).0 in
    record { least = m; index = ltb-true s.index s.period (rw (ne_eqb s.period 0 (omega arith)) at p.index) }

pub valid : (s : State) → check s ≡ 0 → Valid s
valid s ok = record { bounded = bounded s ok; no_trend = no_trend s ok; no_season = no_season s ok; with_season = with_season s ok }

-- ---- what stands in the place of a state after a rejection is refused by its model byte
pub no-state : check no_state ≡ 5
unfolding check no_state
no-state = refl
