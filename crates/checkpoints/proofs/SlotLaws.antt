-- Bytes put into one part of a buffer: that part, and every other one.
use Prim.Native.Nat.{ℕ, suc, ◌+◌, ◌-◌, ◌≤◌}
use mathlib.Core.Path.{◌≡◌, refl, sym, ap, ◌∙◌}
use mathlib.Core.List.{List, [], ◌∷◌, ◌++◌, append_assoc}
use native.Mathlib.Nat.{zero-add}
use native.Mathlib.Decide.{dec_le}
use native.Mathlib.Omega.{arith}
use lib.ListN.{length, length-drop, take, drop, set}
use lib.Seq.{take-set-le, drop-set-add, drop-set-lt, length-take-le, sets, sets-eq, take-append-add, drop_at, drop-drop}
use Rattle.checkpoints.specs.Checkpoints.{slot_size, slot_at, slot_in}

-- a part of a list that ends before what is set, or begins after it
part-before : (n m i a : ℕ) (l : List ℕ) → m + n ≤ i → take n (drop m (set l i a)) ≡ take n (drop m l)
part-before n m i a l h =
    let e : m + (i - m) ≡ i = omega arith in
    let k : n ≤ i - m = omega arith in
    ap (λ (j : ℕ). take n (drop m (set l j a))) (sym e) ∙ ap (take n) (drop-set-add m l (i - m) a) ∙ take-set-le n (drop m l) (i - m) a k

before : (n m i : ℕ) (vs l : List ℕ) → m + n ≤ i → take n (drop m (sets l i vs)) ≡ take n (drop m l)
before n m i [] l h = refl
before n m i (a ∷ vs) l h = before n m (suc i) vs (set l i a) (omega arith) ∙ part-before n m i a l h

after : (m i : ℕ) (vs l : List ℕ) → i + length vs ≤ m → drop m (sets l i vs) ≡ drop m l
after m i [] l h = refl
after m i (a ∷ vs) l h = after m (suc i) vs (set l i a) (omega arith) ∙ drop-set-lt m l i a (omega arith)

-- put at an offset is put at the front of what begins there
pub put-at : (at : ℕ) (vs l : List ℕ) → at + length vs ≤ length l → take at l ++ sets (drop at l) 0 vs ≡ sets l at vs
put-at at vs l h =
    let k : 0 + length vs ≤ length (drop at l) = rw (length-drop at l) (omega arith) in
    rw (sets-eq vs (drop at l) 0 k, sets-eq vs l at h, zero-add (length vs), drop-drop (length vs) at l) (sym (append_assoc (take at l) vs (drop (at + length vs) l)))

-- ---- a slot
module _ (d vs : List ℕ) (slot : ℕ) (fits : length vs ≤ slot_size) (room : slot_at slot + slot_size ≤ length d) where
  pub same-slot : slot_in (sets d (slot_at slot) vs) slot ≡ vs ++ take (slot_size - length vs) (drop (slot_at slot + length vs) d)
  same-slot =
      let at = slot_at slot in
      let n : length vs + (slot_size - length vs) ≡ slot_size = omega arith in
      let front : length (take at d) ≡ at = length-take-le at d (omega arith) in
      ap (λ (l : List ℕ). take slot_size (drop at l)) (sets-eq vs d at (omega arith) ∙ append_assoc (take at d) vs (drop (at + length vs) d))
      ∙ ap (take slot_size) (drop_at (take at d) (vs ++ drop (at + length vs) d) at front)
      ∙ ap (λ (k : ℕ). take k (vs ++ drop (at + length vs) d)) (sym n)
      ∙ take-append-add vs (drop (at + length vs) d) (slot_size - length vs)

  pub other-slot : (other : ℕ) → (other ≡ slot → ⊥) → slot_in (sets d (slot_at slot) vs) other ≡ slot_in d other
  other-slot other h = go (dec_le (suc other) slot)
    where
      go : Dec (suc other ≤ slot) → slot_in (sets d (slot_at slot) vs) other ≡ slot_in d other
      go (yes l) = before slot_size (slot_at other) (slot_at slot) vs d (omega arith)
      go (no l) = ap (take slot_size) (after (slot_at other) (slot_at slot) vs d (omega arith))
