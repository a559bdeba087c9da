-- An accepted snapshot with a score of zeros, its command 15 taken out, is an accepted old one with the same state.
use Prim.Native.Nat.{ℕ, zero, suc, ◌+◌, ◌-◌, ◌≤◌, ◌<◌}
use mathlib.Core.Path.{◌≡◌, refl, sym, ap, ◌∙◌}
use mathlib.Core.Bool.{true, false, false≢true}
use mathlib.Core.List.{List, ◌++◌}
use native.Mathlib.Omega.{arith}
use lib.ListN.{length, length-append, length-drop, take, drop, get_or, get_or-append}
use lib.Seq.{get_or-take, get_or-drop, get_or-append-add, length-take-le, ext_get_or}
use mir.Syntax.{w64}
use mir.Val.{to_z}
use Rattle.state.specs.Scores.{no_score}
use Rattle.layout.specs.Bytes.{from_bytes}
use Rattle.layout.specs.CommandTable.{score_length}
use Rattle.layout.specs.Layout.{score_at, season_at, position_at, scored_in, model_in, period_in, alpha_in, beta_in, gamma_in, phi_in, level_in, trend_in, score_in, season_index_in, season_in, index_in, count_in}
use Rattle.snapshot.specs.Snapshots.{cells_at, decoded, read}
use Rattle.snapshot.specs.Promises.{OldForms}
use Rattle.snapshot.specs.Snapshots.{Scanned}
use Rattle.snapshot.proofs.Accepting.{Model, Level, Season, Position, Accepted, accepted, accepts}

-- so many bytes of two lists, where they are the same one by one
same_bytes : (a b : List ℕ) (i j k : ℕ) → i + k ≤ length a → j + k ≤ length b → ((h : ℕ) → h < k → get_or a (i + h) 0 ≡ get_or b (j + h) 0) → take k (drop i a) ≡ take k (drop j b)
same_bytes a b i j k la lb f =
    let p : length (take k (drop i a)) ≡ k = length-take-le k (drop i a) (rw (length-drop i a) (omega arith)) in
    let q : length (take k (drop j b)) ≡ k = length-take-le k (drop j b) (rw (length-drop j b) (omega arith)) in
    ext_get_or 0 (take k (drop i a)) (take k (drop j b)) (p ∙ sym q)
    (λ h l.
    let l' : h < k = omega (arith, p) in
    get_or-take k (drop i a) h 0 l' ∙ get_or-drop i a h 0 ∙ f h l' ∙ sym (get_or-drop j b h 0) ∙ sym (get_or-take k (drop j b) h 0 l'))

module _ (n o : List ℕ) (len : length o + 25 ≡ length n) (low : (i : ℕ) → i < 36 → get_or o i 0 ≡ get_or n i 0) (high : (j : ℕ) → get_or o (36 + j) 0 ≡ get_or n (61 + j) 0)
    (a : Accepted n) (new : scored_in n ≡ true) (none : score_in n ≡ no_score) where
  -- ---- bytes before the command 15, and after it
  long : 61 ≤ length n
  long = a.scored new

  low-bytes : (i k : ℕ) → i + k ≤ 36 → take k (drop i o) ≡ take k (drop i n)
  low-bytes i k h = same_bytes o n i i k (omega (arith, long)) (omega (arith, long)) (λ j l. low (i + j) (omega arith))

  high-at : (i j : ℕ) → 36 ≤ i → j ≡ i + 25 → get_or o i 0 ≡ get_or n j 0
  high-at i j h e =
      let p : 36 + (i - 36) ≡ i = omega arith in
      let q : 61 + (i - 36) ≡ j = omega arith in
      rw (p, q) at (high (i - 36))

  high-bytes : (i j k : ℕ) → 36 ≤ i → j ≡ i + 25 → j + k ≤ length n → take k (drop i o) ≡ take k (drop j n)
  high-bytes i j k h e l = same_bytes o n i j k (omega arith) l (λ g m. high-at (i + g) (j + g) (omega arith) (omega arith))

  -- ---- the operands
  first-is : get_or o 0 0 ≡ get_or n 0 0
  first-is = low 0 (omega arith)

  model_is : model_in o ≡ model_in n
  model_is = low 1 (omega arith)

  period-is : period_in o ≡ period_in n
  period-is = low 2 (omega arith)

  alpha-is : alpha_in o ≡ alpha_in n
  alpha-is = ap from_bytes (low-bytes 3 4 (omega arith))

  beta-is : beta_in o ≡ beta_in n
  beta-is = ap from_bytes (low-bytes 7 4 (omega arith))

  gamma-is : gamma_in o ≡ gamma_in n
  gamma-is = ap from_bytes (low-bytes 11 4 (omega arith))

  phi-is : phi_in o ≡ phi_in n
  phi-is = ap from_bytes (low-bytes 15 4 (omega arith))

  level_is : level_in o ≡ level_in n
  level_is = ap (λ (l : List ℕ). to_z w64 (from_bytes l)) (low-bytes 20 8 (omega arith))

  trend_is : trend_in o ≡ trend_in n
  trend_is = ap (λ (l : List ℕ). to_z w64 (from_bytes l)) (low-bytes 28 8 (omega arith))

  -- after the command 11 stands that of place 0, or 13
  next-byte : get_or n 61 0 ≡ get_or o 36 0
  next-byte = sym (high-at 36 61 (omega arith) (omega arith))

  unscored : scored_in o ≡ false
  unscored = go (period_in n) refl
    where
      go : (m : ℕ) → period_in n ≡ m → scored_in o ≡ false
      go zero e = let b : get_or n 61 0 ≡ 0x13 = rw (new, e) at a.position.due.byte in rw (sym next-byte ∙ b)
      go (suc m) e = let b : get_or n 61 0 ≡ 0x12 = rw new at (a.seasons 0 (omega arith)).due.byte in rw (sym next-byte ∙ b)

  score-is : score_in o ≡ score_in n
  score-is = rw (unscored, none)

  module _ (k : ℕ) (l : k < period_in n) where
    room : season_at true k + 10 ≤ length n
    room = rw new at (a.seasons k l).due.room

    season-index-is : season_index_in o k ≡ season_index_in n k
    season-index-is = rw (unscored, new) (high-at (season_at false k + 1) (season_at true k + 1) (omega arith) (omega arith))

    season-is : season_in o k ≡ season_in n k
    season-is =
        rw (unscored, new)
        (ap (λ (b : List ℕ). to_z w64 (from_bytes b)) (high-bytes (season_at false k + 2) (season_at true k + 2) 8 (omega arith) (omega arith) (omega (arith, room))))

    season-same : Season o k
    season-same =
        let c = a.seasons k l in
        record {
          due = rw unscored
              (record { byte = high-at (season_at false k) (season_at true k) (omega arith) (omega arith) ∙ (rw new at c.due.byte); room = omega (arith, room) });
          index = season-index-is ∙ c.index;
          value = rw season-is c.value;
        }

  end-in : position_at true (period_in n) + 10 ≤ length n
  end-in = rw new at a.position.due.room

  index_is : index_in o (period_in n) ≡ index_in n (period_in n)
  index_is = rw (unscored, new) (high-at (position_at false (period_in n) + 1) (position_at true (period_in n) + 1) (omega arith) (omega arith))

  count-is : count_in o (period_in n) ≡ count_in n (period_in n)
  count-is =
      rw (unscored, new)
      (ap from_bytes (high-bytes (position_at false (period_in n) + 2) (position_at true (period_in n) + 2) 8 (omega arith) (omega arith) (omega (arith, end-in))))

  -- ---- so it is accepted
  model-same : Model o
  model-same =
      let m = a.model in
      record {
        due = record { byte = rw first-is m.due.byte; room = omega (arith, long) };
        valid = rw model_is m.valid;
        period = rw (model_is, period-is) m.period;
        parameters = rw (first-is, model_is, alpha-is, beta-is, gamma-is, phi-is) m.parameters;
      }

  level-same : Level o
  level-same =
      let v = a.level in
      record { due = record { byte = low 19 (omega arith) ∙ v.due.byte; room = omega (arith, long) }; values = rw (model_is, level_is, trend_is) v.values }

  position-same : Position o (period_in n)
  position-same =
      let p = a.position in
      record {
        due = rw unscored
            (record { byte = high-at (position_at false (period_in n)) (position_at true (period_in n)) (omega arith) (omega arith) ∙ (rw new at p.due.byte); room = omega (arith, end-in) });
        ok = rw (index_is, count-is) p.ok;
        score = rw (count-is, score-is) p.score;
      }

  pub old-accepted : Accepted o
  old-accepted =
      record {
        model = model-same;
        level = level-same;
        scored = λ e. absurd (false≢true (sym unscored ∙ e));
        seasons = rw period-is (λ k l. season-same k l);
        position = rw period-is position-same;
      }

  -- ---- and holds the same state
  cells_same : (k : ℕ) → k ≤ period_in n → cells_at o k ≡ cells_at n k
  unfolding cells_at
  cells_same zero h = refl
  cells_same (suc k) h = rw (cells_same k (omega arith), season-is k h)

  pub old-decoded : decoded o ≡ decoded n
  unfolding decoded
  old-decoded =
      rw (first-is, model_is, period-is, alpha-is, beta-is, gamma-is, phi-is, level_is, trend_is, cells_same (period_in n) (omega arith), index_is, count-is, score-is)

-- ---- the bytes without the command 15
module _ (n : List ℕ) (long : 61 ≤ length n) where
  front_length : length (take score_at n) ≡ 36
  front_length = length-take-le 36 n (omega arith)

  without-length : length (take score_at n ++ drop (score_at + score_length) n) + 25 ≡ length n
  without-length = omega (arith, length-append (take score_at n) (drop (score_at + score_length) n), front_length, length-drop 61 n)

  without-low : (i : ℕ) → i < 36 → get_or (take score_at n ++ drop (score_at + score_length) n) i 0 ≡ get_or n i 0
  without-low i h = get_or-append (take score_at n) (drop (score_at + score_length) n) 0 i (omega (arith, front_length)) ∙ get_or-take 36 n i 0 h

  without-high : (j : ℕ) → get_or (take score_at n ++ drop (score_at + score_length) n) (36 + j) 0 ≡ get_or n (61 + j) 0
  without-high j =
      ap (λ (k : ℕ). get_or (take score_at n ++ drop (score_at + score_length) n) (k + j) 0) (sym front_length)
      ∙ get_or-append-add (take score_at n) (drop (score_at + score_length) n) j 0
      ∙ get_or-drop 61 n j 0

pub old-forms : OldForms
unfolding read
old-forms s h new none =
    let a = accepted s h in
    let o = take score_at s ++ drop (score_at + score_length) s in
    let long = a.scored new in
    let c = ap (λ (r : Scanned). r.code) (accepts (old-accepted s o (without-length s long) (without-low s long) (without-high s long) a new none)) in
    rw (c, h, old-decoded s o (without-length s long) (without-low s long) (without-high s long) a new none)
