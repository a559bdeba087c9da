-- The groups of the squares: one square more changes one of them, and together they are the sum of the squares.
use Prim.Native.Nat.{ℕ, zero, suc, ◌+◌, ◌-◌, ◌*◌, ◌%◌, ◌≤◌, ◌<◌}
use mathlib.Core.Path.{◌≡◌, refl, sym, ap, subst, ◌∙◌}
use mathlib.Core.Bool.{Bool, true, false, cond}
use mathlib.Core.List.{List, [], ◌∷◌, ◌++◌}
use native.Mathlib.Omega.{arith}
use native.Mathlib.Nat.{mod-lt}
use native.Mathlib.Decide.{dec_le, ℕ_discrete}
use lib.Dec.{eqb}
use lib.ListN.{length, get_or, set, drop, replicate, length-append, length-set, length-replicate, get_or-replicate, get_or-append}
use lib.Seq.{ext_get_or, set-append_left, drop_at, length_front, length-take-le, get_or_at, get_or-set_same, get_or-set_other, take_at}
use borrow.Author.Tests.{eq-eqb, ne_eqb}
use Rattle.integers.specs.Totals.{total}
use Rattle.models.specs.Models.{has_season}
use Rattle.state.specs.Valid.{Valid}
use Rattle.state.specs.declared.State.{State}
use Rattle.state.proofs.Passing.{valid}
use Rattle.state.proofs.Tests.{then-zero}
use Rattle.weights.specs.Weights.{trend_term, season_term, coefficient, squares, weight_of, class_one_code, weight}
use Rattle.weights.proofs.Rejecting.{errors-ready}
use Rattle.weights.specs.Groups.{group_count, group_sum, first_groups, groups, weight_groups_code, weight_group_cells}
use Rattle.weights.specs.Promises.{Needed, GroupLaws}

-- a state that passes its checks has a group
pub count-least : (s : State) → Valid s → 1 ≤ group_count s
count-least s v = go (has_season s.model) refl
  where
    go : (t : Bool) → has_season s.model ≡ t → 1 ≤ cond t s.period 1
    go true h = omega (arith, (v.with_season h).least)
    go false h = omega arith

pub groups-length : (s : State) (n k : ℕ) → length (first_groups s n k) ≡ k
unfolding first_groups
groups-length s n zero = refl
groups-length s n (suc k) = rw (length-append, groups-length s n k) (omega arith)

pub group_at : (s : State) (n k i : ℕ) → i < k → get_or (first_groups s n k) i 0 ≡ group_sum s i n
unfolding first_groups
group_at s n zero i h = absurd (omega arith)
group_at s n (suc k) i h = go (group_at s n k i) (dec_le (suc i) k)
  where
    go : (i < k → get_or (first_groups s n k) i 0 ≡ group_sum s i n) → Dec (suc i ≤ k) → get_or (first_groups s n k ++ (group_sum s k n ∷ [])) i 0 ≡ group_sum s i n
    go before (yes l) = get_or-append (first_groups s n k) _ 0 i (rw (groups-length s n k) l) ∙ before l
    go before (no l) =
        let e : i ≡ k = omega arith in
        rw e (get_or_at (first_groups s n k) (group_sum s k n) [] 0 k (groups-length s n k))

-- before j = 1 every group is 0
pub groups-start : (s : State) (k : ℕ) → first_groups s 0 k ≡ replicate k 0
unfolding group_sum
groups-start s k =
    ext_get_or 0 (first_groups s 0 k) (replicate k 0) (rw (groups-length s 0 k, length-replicate {A = ℕ} k 0))
    (λ i l. let h : i < k = rw (groups-length s 0 k) at l in group_at s 0 k i h ∙ sym (get_or-replicate k i 0 0 h))

-- the square of j = n + 1 is added to one of them
pub groups-next : (s : State) (n k : ℕ) {r : ℕ} → r ≡ suc n % group_count s →
    set (first_groups s n k) r (group_sum s r n + coefficient s (suc n) * coefficient s (suc n)) ≡ first_groups s (suc n) k
unfolding group_sum
groups-next s n k {r} q =
    ext_get_or 0 changed (first_groups s (suc n) k) (rw (length-set (first_groups s n k) r v, groups-length s n k, groups-length s (suc n) k))
    (λ i l. let h : i < k = rw (length-set (first_groups s n k) r v, groups-length s n k) at l in go i h (ℕ_discrete i r) ∙ sym (group_at s (suc n) k i h))
  where
    v : ℕ
    v = group_sum s r n + coefficient s (suc n) * coefficient s (suc n)

    changed : List ℕ
    changed = set (first_groups s n k) r v

    go : (i : ℕ) → i < k → Dec (i ≡ r) → get_or changed i 0 ≡ group_sum s i (suc n)
    go i h (yes e) =
        subst (λ (z : ℕ). get_or changed z 0 ≡ group_sum s z (suc n)) (sym e)
        (get_or-set_same (first_groups s n k) r v 0 (omega (arith, groups-length s n k, e)) ∙ sym own)
      where
        own : group_sum s r (suc n) ≡ v
        own = rw (← q, eq-eqb r r refl) refl
    go i h (no e) =
        rw (← q, ne_eqb r i (λ p. e (sym p)))
        (get_or-set_other (first_groups s n k) r i v 0 e ∙ group_at s n k i h ∙ omega arith)

-- no group is more than all of them
pub group-most : (s : State) (g n : ℕ) → group_sum s g n ≤ squares s n
unfolding group_sum squares
group-most s g zero = omega arith
group-most s g (suc n) = go (eqb (suc n % group_count s) g) (group-most s g n)
  where
    go : (t : Bool) → group_sum s g n ≤ squares s n → group_sum s g n + cond t (coefficient s (suc n) * coefficient s (suc n)) 0 ≤ squares s n + coefficient s (suc n) * coefficient s (suc n)
    go true h = omega arith
    go false h = omega arith

-- ---- in the first cells of a buffer

-- where the groups of 1 to n stand first, one is no more than all of them, and the square of j = n + 1 goes to that of j's remainder
module _ (s : State) (n : ℕ) (rest : List ℕ) {cells : List ℕ} {i : ℕ} (at : cells ≡ first_groups s n (group_count s) ++ rest) (l : i < group_count s) where
  within : i < length (first_groups s n (group_count s))
  within = rw (groups-length s n (group_count s)) l

  cell-is : get_or cells i 0 ≡ group_sum s i n
  cell-is = rw at (get_or-append (first_groups s n (group_count s)) rest 0 i within) ∙ group_at s n (group_count s) i l

  pub cell-most : get_or cells i 0 ≤ squares s n
  cell-most = rw cell-is (group-most s i n)

  pub cells-next : {j x : ℕ} → suc n ≡ j → i ≡ j % group_count s → x ≡ coefficient s j * coefficient s j → set cells i (get_or cells i 0 + x) ≡ first_groups s j (group_count s) ++ rest
  cells-next e r x =
      rw (cell-is, at, x, ← e)
      (set-append_left (first_groups s n (group_count s)) rest i _ within
      ∙ ap (λ (l : List ℕ). l ++ rest) (groups-next s n (group_count s) (rw e r)))

-- before j = 1, where the cells were set to 0
pub record Cleared (s : State) (found cells : List ℕ) : Type 0 where
  pub start : cells ≡ first_groups s 0 (group_count s) ++ drop (group_count s) cells
  pub rest : drop (group_count s) cells ≡ drop (group_count s) found
  pub same : length cells ≡ length found

pub cleared : (s : State) {m : ℕ} {found cells : List ℕ} → m ≡ group_count s → m ≤ length found → cells ≡ replicate m 0 ++ drop m found → Cleared s found cells
cleared s {m} {found} {cells} e l h =
    record {
      start = rw (rest, groups-start s (group_count s)) (rw e at h);
      rest = rest;
      same = rw h (length_front found (replicate m 0) m (length-replicate m 0 ∙ sym (length-take-le m found l)));
    }
  where
    rest : drop (group_count s) cells ≡ drop (group_count s) found
    rest = rw (h, ← e) (drop_at (replicate m 0) (drop m found) m (length-replicate {A = ℕ} m 0))

-- ---- their total

total-set : (l : List ℕ) (i v : ℕ) → i < length l → total (set l i v) + get_or l i 0 ≡ total l + v
unfolding total
total-set [] i v h = absurd (omega arith)
total-set (x ∷ l) zero v h = omega arith
total-set (x ∷ l) (suc i) v h = omega (arith, total-set l i v (omega arith))

total-none : (k : ℕ) → total (replicate k 0) ≡ 0
unfolding total
total-none zero = refl
total-none (suc k) = omega (arith, total-none k)

pub groups-total : (s : State) (n : ℕ) → 1 ≤ group_count s → total (first_groups s n (group_count s)) ≡ squares s n
unfolding squares
groups-total s zero h = rw (groups-start s (group_count s)) (total-none (group_count s))
groups-total s (suc n) h =
    let m = group_count s in
    let r = suc n % m in
    let x = coefficient s (suc n) * coefficient s (suc n) in
    let inside : r < m = mod-lt (suc n) {m = m} h in
    let moved = total-set (first_groups s n m) r (group_sum s r n + x) (omega (arith, inside, groups-length s n m)) in
    omega (arith, rw (groups-next s n m {r = r} refl, group_at s n m r inside) at moved, groups-total s n h)

pub weight_is : (s : State) (h : ℕ) → 1 ≤ group_count s → 4294967296 + total (groups s h) ≡ weight_of s h
unfolding weight_of
weight_is s h l = ap (λ (x : ℕ). 4294967296 + x) (groups-total s (h - 1) l)

needed : Needed
unfolding first_groups total weight_of squares coefficient trend_term season_term
needed = record { grouped = refl; whole = refl }

pub group_laws : GroupLaws
unfolding weight weight_group_cells weight_groups_code
group_laws =
    record {
      weight_is = weight_is;
      answers =
          λ s h cells z.
          let f = then-zero (class_one_code s h) _ z in
          let least = count-least s (valid s (errors-ready false s h f.0).valid) in
          rw (f.0, f.1, take_at (groups s h) (drop (group_count s) cells) (group_count s) (groups-length s (h - 1) (group_count s)), weight_is s h least);
      needed = needed;
    }
