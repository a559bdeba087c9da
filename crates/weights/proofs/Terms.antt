-- The terms of a coefficient, as a loop over j comes by them from those of j − 1.
use Prim.Native.Nat.{ℕ, zero, suc, ◌+◌, ◌-◌, ◌*◌, ◌%◌, ◌≤◌, ◌<◌}
use mathlib.Core.Path.{◌≡◌, refl, ap}
use mathlib.Core.Bool.{Bool, true, false, cond, ◌&&◌}
use native.Mathlib.Omega.{arith}
use native.Mathlib.Nat.{mul-le-mul, mod-lt, mod-zero, mod_self, mod-eq_of_lt, suc-mod, zero-mod, mod-le}
use lib.Dec.{eqb, ltb}
use lib.IntN.{pos}
use borrow.Author.Tests.{eqb-true, eqb-false, le-ltb}
use Rattle.state.specs.Fixed.{share_nat}
use Rattle.models.specs.Models.{trend_of, has_season, ties_to_even}
use Rattle.state.specs.Valid.{Valid}
use Rattle.state.proofs.Rounding.{added-le, share_nat-is}
use Rattle.state.specs.declared.State.{State}
use Rattle.weights.specs.Weights.{damping_sum, trend_term, season_term, coefficient, squares, weight_of}
use Rattle.weights.specs.Groups.{group_count}
use Rattle.weights.specs.Facts.{At}

-- a product of two bounded numbers
pub product_le : (m n : ℕ) {a b : ℕ} → a ≤ m → b ≤ n → a * b ≤ m * n
product_le m n h k = mul-le-mul h k

-- a parameter is at most 1
pub shrinks : (even : Bool) (a x : ℕ) → a ≤ 65536 → share_nat even a x ≤ x
shrinks even a x h = omega (arith, share_nat-is even a x, added-le even (pos (a * x)), product_le 65536 x {b = x} h (omega arith))

-- the next P, where the trend is damped; nothing else uses it
damping-next : (even : Bool) (t F n : ℕ) {j p q : ℕ} → suc n ≡ j → p ≡ cond (ltb t 2) 0 (damping_sum even F n) → q ≡ cond (ltb t 2) 0 (share_nat even F (p + 65536)) → q ≡ cond (ltb t 2) 0 (damping_sum even F j)
unfolding damping_sum
damping-next even t F n {j} {p} {q} e = rw (← e) (go (ltb t 2))
  where
    go : (b : Bool) → p ≡ cond b 0 (damping_sum even F n) → q ≡ cond b 0 (share_nat even F (p + 65536)) → q ≡ cond b 0 (share_nat even F (damping_sum even F n + 65536))
    go true h k = k
    go false h k = rw (← h) k

damping-start : (even : Bool) (t F : ℕ) → 0 ≡ cond (ltb t 2) 0 (damping_sum even F 0)
unfolding damping_sum
damping-start even t F = go (ltb t 2)
  where
    go : (b : Bool) → ◌≡◌ {A = ℕ} 0 (cond b 0 0)
    go true = refl
    go false = refl

damped-alone : (even : Bool) (t a b d : ℕ) → cond (eqb t 0) 0 (cond (eqb t 1) a (share_nat even b (cond (ltb t 2) 0 d))) ≡ cond (eqb t 0) 0 (cond (eqb t 1) a (share_nat even b d))
damped-alone even zero a b d = refl
damped-alone even (suc zero) a b d = refl
damped-alone even (suc (suc t)) a b d = rw (le-ltb (suc (suc t)) 2 (omega arith))

-- the next remainder, without a division
remainder-next : (m n : ℕ) {j k r : ℕ} → suc n ≡ j → k ≡ n % m → r ≡ cond (eqb (k + 1) m) 0 (k + 1) → r ≡ j % m
remainder-next m n j k r = rw (← j, r, k) (go (eqb (n % m + 1) m) refl)
  where
    less : (m : ℕ) → (n % m + 1 ≡ m → ⊥) → n % m + 1 ≡ suc n % m
    less zero f = rw (mod-zero n, mod-zero (suc n)) (omega arith)
    less (suc m) f =
        let l : suc (n % suc m) < suc m = omega (arith, mod-lt n {m = suc m} (omega arith)) in
        rw (suc-mod n (suc m), mod-eq_of_lt l) (omega arith)

    go : (t : Bool) → eqb (n % m + 1) m ≡ t → cond t 0 (n % m + 1) ≡ suc n % m
    go true e =
        let w : suc (n % m) ≡ m = omega (arith, eqb-true (n % m + 1) m e) in
        rw (suc-mod n m, w, mod_self m)
    go false e = less m (eqb-false _ _ e)

-- ---- what a loop holds when it comes by the coefficient of j, from what it held at j − 1
pub at-start : (s : State) {even : Bool} {t : ℕ} → even ≡ ties_to_even s.model → t ≡ trend_of s.model → At s even t 0 0 0
at-start s {t = t} e h =
    record {
      most = omega arith;
      small = omega arith;
      rule = e;
      trend_is = h;
      damping = damping-start (ties_to_even s.model) t s.phi;
      remainder = rw (zero-mod (group_count s));
    }

pub at_next : (s : State) (n : ℕ) {even : Bool} {t j p k q r : ℕ}
    → suc n ≡ j
    → j ≤ 512
    → At s even t n p k
    → (q ≡ cond (ltb t 2) 0 (share_nat even s.phi (p + 65536))) × (q ≤ p + 65536)
    → (r ≡ cond (eqb (k + 1) (group_count s)) 0 (k + 1)) × (r ≤ k + 1)
    → At s even t j q r
at_next s n {even} {t} e m a q r =
    record {
      most = m;
      small = omega (arith, a.small, q.1);
      rule = a.rule;
      trend_is = a.trend_is;
      damping = damping-next (ties_to_even s.model) t s.phi n e a.damping (rw a.rule at q.0);
      remainder = remainder-next (group_count s) n e a.remainder r.0;
    }

-- the remainder is small
pub at_small : (s : State) {even : Bool} {t j p k : ℕ} → At s even t j p k → k ≤ 512
at_small s {j = j} a = omega (arith, a.remainder, mod-le j (group_count s), a.most)

-- without season G is 0, so the remainder alone decides
left_out : (s : State) → Valid s → (j : ℕ) → cond (eqb (j % group_count s) 0) s.gamma 0 ≡ season_term s j
unfolding season_term
left_out s v j = go (has_season s.model) refl
  where
    none : (u : Bool) → ◌≡◌ {A = ℕ} (cond u 0 0) 0
    none true = refl
    none false = refl

    go : (t : Bool) → has_season s.model ≡ t → cond (eqb (j % cond t s.period 1) 0) s.gamma 0 ≡ cond (t && eqb (j % s.period) 0) s.gamma 0
    go true h = refl
    go false h = rw (v.no_season h).gamma (none (eqb (j % 1) 0))

-- a coefficient from its trend term x and its season term y
pub coefficient-is : (s : State) {even : Bool} {t j p k x y : ℕ}
    → Valid s
    → At s even t j p k
    → x ≡ cond (eqb t 0) 0 (cond (eqb t 1) (s.beta * j) (share_nat even s.beta p))
    → y ≡ cond (eqb k 0) s.gamma 0
    → s.alpha + x + y ≡ coefficient s j
unfolding coefficient trend_term
coefficient-is s {j = j} v a x y =
    rw (x, y, a.damping, a.rule, a.trend_is, a.remainder, damped-alone (ties_to_even s.model) (trend_of s.model) (s.beta * j) s.beta (damping_sum (ties_to_even s.model) s.phi j), left_out s v j)

-- one square more
pub squares-next : (s : State) (n : ℕ) {j : ℕ} → suc n ≡ j → squares s j ≡ squares s n + coefficient s j * coefficient s j
unfolding squares
squares-next s n j = rw (← j)

pub weight-next : (s : State) (n : ℕ) {j : ℕ} → suc n ≡ j → weight_of s (j + 1) ≡ weight_of s j + coefficient s j * coefficient s j
unfolding weight_of
weight-next s n {j} e =
    let now : j + 1 - 1 ≡ j = omega arith in
    let before : j - 1 ≡ n = omega arith in
    omega (arith, ap (squares s) now, ap (squares s) before, squares-next s n e)
