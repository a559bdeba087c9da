-- Writing a level, a score, a season value or a position into a snapshot gives the snapshot that has them.
use Prim.Native.Nat.{ℕ, zero, suc, ◌+◌, ◌*◌, ◌≤◌, ◌<◌}
use mathlib.Core.Path.{◌≡◌, refl, sym, ap, ◌∙◌}
use mathlib.Core.Bool.{true}
use mathlib.Core.Logic.{⊎_elim}
use mathlib.Core.List.{List, ◌++◌, append_assoc, append-nil}
use native.Mathlib.Nat.{zero-add, le_of_suc-le-suc, eq-or-lt_of_le, not-suc-le-zero}
use native.Mathlib.Omega.{arith}
use borrow.Author.Tests.{le-leb}
use lib.IntN.{ℤ, pos}
use lib.ListN.{length, length-append, get_or, set}
use lib.Seq.{sets, sets-eq, take-append-add, drop-append-add, take-append-le, drop-append-le, drop-length, get_or-set_same, get_or-set_other}
use Rattle.state.specs.declared.Score.{Score}
use Rattle.state.specs.declared.State.{State}
use Rattle.layout.specs.CommandTable.{model_length, score_length, season_length, position_length}
use Rattle.layout.specs.Layout.{level_at, score_at, season_at, position_at, size_of}
use Rattle.saving.specs.Encoding.{level_bytes, score_bytes, season_bytes, seasons_bytes, position_bytes, encoded}
use Rattle.saving.specs.Saving.{snapshot_written}
use Rattle.saving.proofs.Lengths.{length-level, length-score, length-season, length-seasons, length-position, length-encoded}

-- ---- a run of stores in one part of a list
right : (a x b : List ℕ) (i j : ℕ) → i ≡ length a + j → j + length b ≤ length x → sets (a ++ x) i b ≡ a ++ sets x j b
right a x b i j e h =
    let n : i + length b ≤ length (a ++ x) = omega (arith, length-append a x) in
    let o : i + length b ≡ length a + (j + length b) = omega arith in
    rw (sets-eq b (a ++ x) i n, sets-eq b x j h, o, e, take-append-add a x j, drop-append-add a x (j + length b)) (simp append_assoc)

left : (x c b : List ℕ) (j : ℕ) → j + length b ≤ length x → sets (x ++ c) j b ≡ sets x j b ++ c
left x c b j h =
    let n : j + length b ≤ length (x ++ c) = omega (arith, length-append x c) in
    let k : j ≤ length x = omega arith in
    rw (sets-eq b (x ++ c) j n, sets-eq b x j h, take-append-le j x c k, drop-append-le (j + length b) x c h) (simp append_assoc)

pub all : (b b' : List ℕ) → length b' ≡ length b → sets b 0 b' ≡ b'
all b b' e =
    let n : 0 + length b' ≤ length b = omega arith in
    rw (sets-eq b' b 0 n, zero-add (length b'), e, drop-length b) (append-nil b')

-- a snapshot over a slice of its length
pub snapshot-written : (s : State) (d : List ℕ) → s.period ≤ 48 → length (encoded s) ≡ length d → snapshot_written s d ≡ encoded s
unfolding snapshot_written
snapshot-written s d h e =
    rw (le-leb s.period 48 h, le-leb (size_of s.period) (length d) (omega (arith, length-encoded s))) (all d (encoded s) e)

-- the first part, and the one behind a and b
front : (b c b' : List ℕ) → length b' ≡ length b → sets (b ++ c) 0 b' ≡ b' ++ c
front b c b' e = left b c b' 0 (omega arith) ∙ ap (λ (l : List ℕ). l ++ c) (all b b' e)

behind : (a b c x : List ℕ) (i j : ℕ) → i ≡ length a + length b + j → j + length x ≤ length c → sets (a ++ (b ++ c)) i x ≡ a ++ (b ++ sets c j x)
behind a b c x i j e h =
    right a (b ++ c) x i (length b + j) (omega arith) (omega (arith, length-append b c))
    ∙ ap (λ (l : List ℕ). a ++ l) (right b c x (length b + j) j refl h)

-- ---- one season value
below : (cells : List ℤ) (k : ℕ) (v : ℤ) (n : ℕ) → n ≤ k → seasons_bytes (set cells k v) n ≡ seasons_bytes cells n
unfolding seasons_bytes
below cells k v zero h = refl
below cells k v (suc n) h = rw (below cells k v n (omega arith), get_or-set_other cells k n v (pos 0) (λ e. omega arith))

season-in : (cells : List ℤ) (k : ℕ) (v : ℤ) (m : ℕ) → k < m → k < length cells → sets (seasons_bytes cells m) (season_length * k) (season_bytes k v) ≡ seasons_bytes (set cells k v) m
unfolding seasons_bytes
season-in cells k v zero h l = absurd (not-suc-le-zero h)
season-in cells k v (suc n) h l =
    ⊎_elim
    (λ (e : k ≡ n). rw (← e)
    (rw (below cells k v k (omega arith), get_or-set_same cells k v (pos 0) l)
    (right (seasons_bytes cells k) (season_bytes k (get_or cells k (pos 0))) (season_bytes k v) (season_length * k) 0 (omega (arith, length-seasons cells k)) (omega (arith, length-season k v, length-season k (get_or cells k (pos 0))))
    ∙ ap (λ (b : List ℕ). seasons_bytes cells k ++ b) (all (season_bytes k (get_or cells k (pos 0))) (season_bytes k v) (length-season k v ∙ sym (length-season k (get_or cells k (pos 0))))))))
    (λ (lt : k < n).
    let o : n ≡ k → ⊥ = λ e. omega arith in
    rw (get_or-set_other cells k n v (pos 0) o)
    (left (seasons_bytes cells n) (season_bytes n (get_or cells n (pos 0))) (season_bytes k v) (season_length * k) (omega (arith, length-seasons cells n, length-season k v))
    ∙ ap (λ (b : List ℕ). b ++ season_bytes n (get_or cells n (pos 0))) (season-in cells k v n lt l)))
    (eq-or-lt_of_le (le_of_suc-le-suc h))

-- ---- the four writes, behind the bytes of a command 10 or 18
abbrev pub snapshot_of : List ℕ → ℤ → ℤ → Score → List ℤ → ℕ → ℕ → ℕ → List ℕ
snapshot_of model l b score cells m p n =
    model ++ (level_bytes l b ++ (score_bytes score ++ (seasons_bytes cells m ++ position_bytes p n)))

module _ (model : List ℕ) (e : length model ≡ model_length) (l b : ℤ) (score : Score) (cells : List ℤ) (m p n : ℕ) where
  rest-length : length (seasons_bytes cells m ++ position_bytes p n) ≡ season_length * m + position_length
  rest-length = length-append (seasons_bytes cells m) (position_bytes p n) ∙ rw (length-seasons cells m, length-position p n)

  score-length : length (score_bytes score ++ (seasons_bytes cells m ++ position_bytes p n)) ≡ score_length + (season_length * m + position_length)
  score-length =
      length-append (score_bytes score) (seasons_bytes cells m ++ position_bytes p n) ∙ rw (length-score score, rest-length)

  pub level-written : (l' b' : ℤ) → sets (snapshot_of model l b score cells m p n) level_at (level_bytes l' b') ≡ snapshot_of model l' b' score cells m p n
  level-written l' b' =
      let c = score_bytes score ++ (seasons_bytes cells m ++ position_bytes p n) in
      right model (level_bytes l b ++ c) (level_bytes l' b') level_at 0 (omega arith) (omega (arith, length-level l b, length-level l' b', length-append (level_bytes l b) c))
      ∙ ap (λ (x : List ℕ). model ++ x) (front (level_bytes l b) c (level_bytes l' b') (length-level l' b' ∙ sym (length-level l b)))

  pub score-written : (score' : Score) → sets (snapshot_of model l b score cells m p n) score_at (score_bytes score') ≡ snapshot_of model l b score' cells m p n
  score-written score' =
      let c = seasons_bytes cells m ++ position_bytes p n in
      behind model (level_bytes l b) (score_bytes score ++ c) (score_bytes score') score_at 0 (omega (arith, length-level l b)) (omega (arith, score-length, length-score score'))
      ∙ ap (λ (z : List ℕ). model ++ (level_bytes l b ++ z)) (front (score_bytes score) c (score_bytes score') (length-score score' ∙ sym (length-score score)))

  -- a store in the seasons or behind them
  pub tail_written : (x : List ℕ) (j : ℕ) → j + length x ≤ season_length * m + position_length → sets (snapshot_of model l b score cells m p n) (season_at true 0 + j) x
      ≡ model ++ (level_bytes l b ++ (score_bytes score ++ sets (seasons_bytes cells m ++ position_bytes p n) j x))
  tail_written x j h =
      let c = seasons_bytes cells m ++ position_bytes p n in
      behind model (level_bytes l b) (score_bytes score ++ c) x (season_at true 0 + j) (score_length + j) (omega (arith, length-level l b)) (omega (arith, score-length))
      ∙ ap (λ (z : List ℕ). model ++ (level_bytes l b ++ z)) (right (score_bytes score) c x (score_length + j) j (omega (arith, length-score score)) (omega (arith, rest-length)))

  pub season-written : (k : ℕ) (v : ℤ) → k < m → k < length cells → sets (snapshot_of model l b score cells m p n) (season_at true k) (season_bytes k v) ≡ snapshot_of model l b score (set cells k v) m p n
  season-written k v h o =
      let x = seasons_bytes cells m in
      let y = position_bytes p n in
      tail_written (season_bytes k v) (season_length * k) (omega (arith, length-season k v))
      ∙ ap (λ (z : List ℕ). model ++ (level_bytes l b ++ (score_bytes score ++ z)))
      (left x y (season_bytes k v) (season_length * k) (omega (arith, length-seasons cells m, length-season k v))
      ∙ ap (λ (z : List ℕ). z ++ y) (season-in cells k v m h o))

  pub position-written : (p' n' : ℕ) → sets (snapshot_of model l b score cells m p n) (position_at true m) (position_bytes p' n') ≡ snapshot_of model l b score cells m p' n'
  position-written p' n' =
      let x = seasons_bytes cells m in
      tail_written (position_bytes p' n') (season_length * m) (omega (arith, length-position p' n'))
      ∙ ap (λ (z : List ℕ). model ++ (level_bytes l b ++ (score_bytes score ++ z)))
      (right x (position_bytes p n) (position_bytes p' n') (season_length * m) 0 (omega (arith, length-seasons cells m)) (omega (arith, length-position p n, length-position p' n'))
      ∙ ap (λ (z : List ℕ). x ++ z) (all (position_bytes p n) (position_bytes p' n') (length-position p' n' ∙ sym (length-position p n))))
