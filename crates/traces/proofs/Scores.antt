-- The score over a list of calls: each accepted real reading adds one, and its square.
use Prim.Native.Nat.{ℕ, ◌+◌}
use mathlib.Core.Path.{◌≡◌, refl}
use mathlib.Core.Bool.{Bool, true, false, cond}
use mathlib.Core.List.{List, [], ◌∷◌, ◌++◌}
use native.Mathlib.Omega.{arith}
use lib.IntN.{ℤ}
use lib.ListN.{length-append}
use Rattle.calendars.specs.Calendars.{Calendar}
use Rattle.integers.specs.Totals.{total}
use Rattle.state.specs.Fixed.{is_sentinel}
use Rattle.state.specs.Switching.{switched}
use Rattle.state.specs.declared.State.{State}
use Rattle.ets.specs.Steps.{square_by, after_reading_by, after_missing_by}
use Rattle.ets.specs.Batches.{run_by, preceded, halted, take_code_by, after_take_by}
use Rattle.ets.proofs.ScoreLaws.{readings-after, sum-after}
use Rattle.traces.specs.Calls.{Result, result, after}
use Rattle.traces.specs.Scores.{batch_squares, all_squares, Scored, ScoreLaws}
use Rattle.traces.proofs.Works.{by_code, Works, reads, misses, switches, takes, forecasts-one, forecasts-all, walks-one, walks-all}
use Rattle.traces.proofs.Results.{works}
use Rattle.traces.proofs.Lists.{call-laws}

-- ---- one after the other
total-append : (a b : List ℕ) → total (a ++ b) ≡ total a + total b
unfolding total
total-append [] b = omega arith
total-append (n ∷ a) b = omega (arith, total-append a b)

-- the same score is one with no reading more
same : (s t : State) → t.score ≡ s.score → Scored s t []
unfolding total
same s t e = record { readings = rw e (omega arith); sum = rw e (omega arith) }

joined : {s t u : State} {a b : List ℕ} → Scored s t a → Scored t u b → Scored s u (a ++ b)
joined {s} {t} {u} {a} {b} p q =
    record { readings = omega (arith, p.readings, q.readings, length-append a b); sum = omega (arith, p.sum, q.sum, total-append a b) }

reading : (k : Calendar) (s : State) (y : ℤ) → Scored s (after_reading_by k s y) (square_by k s y ∷ [])
unfolding total
reading k s y =
    record { readings = readings-after s.score (square_by k s y); sum = omega (arith, sum-after s.score (square_by k s y)) }

-- ---- a batch
taking : (k : Calendar) (s : State) (y : ℤ) → Scored s (after_take_by k s y) (cond (is_sentinel y) [] (square_by k s y ∷ []))
unfolding after_take_by
taking k s y = go (is_sentinel y)
  where
    go : (b : Bool) → Scored s (cond b (after_missing_by k s) (after_reading_by k s y)) (cond b [] (square_by k s y ∷ []))
    go true = same s (after_missing_by k s) refl
    go false = reading k s y

running : (k : Calendar) (ys : List ℤ) (s : State) → Scored s (run_by k s ys).state (batch_squares k s ys)
unfolding run_by batch_squares
running k [] s = same s s refl
running k (y ∷ ys) s =
    by_code (λ b. Scored s (cond b (preceded (after_take_by k s y).level (run_by k (after_take_by k s y) ys)) (halted s (take_code_by k s y))).state (cond b (cond (is_sentinel y) [] (square_by k s y ∷ []) ++ batch_squares k (after_take_by k s y) ys) [])) (take_code_by k s y)
    (λ z. joined (taking k s y) (running k ys (after_take_by k s y)))
    (same s s refl)

-- ---- one call, by what it works as
scored : (s : State) {q : List ℕ} {r : Result} → Works s q r → Scored s r.state q
scored s (reads k y n f) = by_code (λ b. Scored s (cond b (after_reading_by k s y) s) (cond b (square_by k s y ∷ []) [])) n (λ z. reading k s y) (same s s refl)
scored s (misses k n f) = by_code (λ b. Scored s (cond b (after_missing_by k s) s) []) n (λ z. same s (after_missing_by k s) refl) (same s s refl)
scored s (switches n) = by_code (λ b. Scored s (cond b (switched s) s) []) n (λ z. same s (switched s) refl) (same s s refl)
scored s (takes k ys n f) =
    by_code (λ b. Scored s (cond b (run_by k s ys) (halted s n)).state (cond b (batch_squares k s ys) [])) n (λ z. running k ys s) (same s s refl)
scored s (forecasts-one h n v f) = same s s refl
scored s (forecasts-all h n zs f) = same s s refl
scored s (walks-one k h n v f) = same s s refl
scored s (walks-all k h n zs f) = same s s refl

pub score-laws : ScoreLaws
unfolding after all_squares
score-laws s w [] = same s s refl
score-laws s w (k ∷ ks) =
    joined (scored s (works s w.typed w.passes k)) (score-laws (result s k).state (call-laws s w k).stays ks)
