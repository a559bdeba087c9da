-- The state of an accepted snapshot: its season cells, and that it passes the checks.
use Prim.Native.Nat.{ℕ, zero, suc, ◌≤◌, ◌<◌}
use mathlib.Core.Path.{◌≡◌, refl, ◌∙◌}
use mathlib.Core.Bool.{Bool, true, false, cond}
use mathlib.Core.Logic.{⊎_elim}
use mathlib.Core.List.{List}
use native.Mathlib.Nat.{le_of_suc-le-suc, eq-or-lt_of_le, not-suc-le-zero}
use native.Mathlib.Omega.{arith}
use borrow.Author.Tests.{ltb-true, ltb-false, ne_eqb}
use lib.Dec.{ltb}
use lib.IntN.{pos}
use lib.ListN.{length, get_or-replicate, get_or}
use lib.Seq.{get_or-set_same, get_or-set_other}
use Rattle.state.specs.Fixed.{in_range, is_zero}
use Rattle.state.specs.States.{check, cell_ok}
use Rattle.integers.proofs.Tests.{both, all_below-all}
use Rattle.state.proofs.Passing.{passes, no-state}
use Rattle.layout.specs.Layout.{period_in, season_in}
pub use Rattle.fields.proofs.Cells.{length-cells}
use Rattle.snapshot.specs.Snapshots.{open_code, cells_at, decoded, read}
use Rattle.snapshot.specs.Promises.{RejectedState}
use Rattle.snapshot.proofs.Accepting.{Accepted, accepted, period-most}

-- ---- the season cells that were read
pub cell-read : (s : List ℕ) (n k : ℕ) → n ≤ 48 → k < n → get_or (cells_at s n) k (pos 0) ≡ season_in s k
unfolding cells_at
cell-read s zero k h l = absurd (not-suc-le-zero l)
cell-read s (suc n) k h l =
    ⊎_elim
    (λ (q : k ≡ n). rw q (get_or-set_same (cells_at s n) n (season_in s n) (pos 0) (rw (length-cells s n) h)))
    (λ (lt : k < n). get_or-set_other (cells_at s n) n k (season_in s n) (pos 0) (λ q. omega arith) ∙ cell-read s n k (omega arith) lt)
    (eq-or-lt_of_le (le_of_suc-le-suc l))

pub cell-none : (s : List ℕ) (n k : ℕ) → k < 48 → n ≤ k → get_or (cells_at s n) k (pos 0) ≡ pos 0
unfolding cells_at
cell-none s zero k h l = get_or-replicate 48 k (pos 0) (pos 0) h
cell-none s (suc n) k h l =
    get_or-set_other (cells_at s n) n k (season_in s n) (pos 0) (λ q. omega arith) ∙ cell-none s n k h (omega arith)

-- ---- what was accepted passes the checks
cell-passes : (s : List ℕ) → Accepted s → (k : ℕ) → k < 48 → cell_ok (period_in s) k (get_or (cells_at s (period_in s)) k (pos 0)) ≡ true
cell-passes s a k h = go (ltb k (period_in s)) refl
  where
    go : (t : Bool) → ltb k (period_in s) ≡ t → cond t (in_range (get_or (cells_at s (period_in s)) k (pos 0))) (is_zero (get_or (cells_at s (period_in s)) k (pos 0))) ≡ true
    go true e =
        let l = ltb-true k (period_in s) e in
        rw (cell-read s (period_in s) k (period-most a.model) l) (a.seasons k l).value
    go false e = rw (cell-none s (period_in s) k h (ltb-false k (period_in s) e))

pub accepted-passes : (s : List ℕ) → open_code s ≡ 0 → check (decoded s) ≡ 0
unfolding decoded
accepted-passes s h =
    let a = accepted s h in
    let v = both _ _ a.level.values in
    let i = both _ _ a.position.ok in
    passes (decoded s)
    (record {
      model = a.model.valid;
      period = a.model.period;
      parameters = a.model.parameters;
      level = v.0;
      trend = v.1;
      seasonal = all_below-all 48 (λ (k : ℕ). cell_ok (period_in s) k (get_or (cells_at s (period_in s)) k (pos 0))) (cell-passes s a);
      index = i.0;
      count = i.1;
      score = a.position.score;
    })

pub length-decoded : (s : List ℕ) → length (decoded s).seasonal ≡ 48
unfolding decoded
length-decoded s = length-cells s (period_in s)

-- after a rejection there is no state to go on with
pub rejected-state : RejectedState
unfolding read
rejected-state s h = rw (ne_eqb (open_code s) 0 h) no-state
