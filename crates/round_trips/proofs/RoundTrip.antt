-- Both round trips of a snapshot: reading what was saved gives the state back, and saving what was read writes the same bytes.
use Prim.Native.Nat.{ℕ, zero, suc, ◌+◌, ◌*◌, ◌≤◌, ◌<◌}
use mathlib.Core.Path.{◌≡◌, refl, sym, ap, ◌∙◌}
use mathlib.Core.Bool.{Bool, true, false, cond, not}
use mathlib.Core.Logic.{⊎_elim}
use mathlib.Core.List.{List, [], ◌∷◌, ◌++◌, append_assoc, append-nil}
use native.Mathlib.Nat.{le_refl, zero-add, add-zero, le_of_suc-le-suc, eq-or-lt_of_le, not-suc-le-zero, lt_of_le_of_lt}
use native.Mathlib.Omega.{arith}
use borrow.Author.Tests.{ltb-true, ltb-false, eqb-true, le-leb, lt-ltb}
use lib.Dec.{eqb, lit<, ltb}
use lib.IntN.{ℤ, pos}
use lib.ListN.{length, length-append, take, drop, get_or}
use lib.Seq.{get_or-drop, drop-drop, drop_at, take_at, drop-cons, length-take-le, take_all, ext_get_or, take-add, sets, sets-eq}
use mir.Syntax.{w64}
use mir.Val.{SFits, of_z}
use Rattle.integers.specs.Bounds.{Within}
use Rattle.integers.proofs.Bounds.{within-fits}
use Rattle.state.specs.Scores.{score_of, no_score}
use Rattle.state.specs.States.{Typed, check, cell_ok}
use Rattle.state.specs.Regions.{opened_by}
use Rattle.state.specs.declared.State.{State}
use Rattle.integers.proofs.Tests.{all_below-at}
use Rattle.models.proofs.ModelLaws.{model-again}
use Rattle.state.proofs.Tests.{zero_is}
use Rattle.state.specs.Valid.{Bounded}
use Rattle.state.proofs.Passing.{Passed, passed, bounded}
use Rattle.state.proofs.Regions.{region-laws}
use Rattle.ets.proofs.ScoreLaws.{high_le}
use Rattle.layout.specs.Bytes.{AreBytes, unsigned_at}
use Rattle.layout.specs.CommandTable.{opener, model_length, level_length, score_length, season_length, position_length}
use Rattle.layout.specs.Layout.{model_at, level_at, score_at, season_at, position_at, end_at, size_of, outside_in, scored_in, model_in, period_in, alpha_in, beta_in, gamma_in, phi_in, level_in, trend_in, score_in, season_in, index_in, count_in}
use Rattle.snapshot.specs.Snapshots.{open_code, open_offset, cells_at, decoded, read, rest_of}
use Rattle.snapshot.specs.Promises.{old_form}
use Rattle.slices.specs.Slices.{in_place_code}
use Rattle.snapshot.specs.Snapshots.{Scanned}
use Rattle.snapshot.proofs.Accepting.{Due, Season, Accepted, accepted, accepts, accepted-size, period-most}
use Rattle.slices.proofs.SliceLaws.{one-snapshot, nothing-after}
use Rattle.snapshot.proofs.OldForms.{old-forms}
use Rattle.snapshot.proofs.Decoded.{cell-read, cell-none, accepted-passes}
use Rattle.fields.proofs.Cells.{length-cells}
use Rattle.saving.specs.Encoding.{to_bytes, signed_bytes, model_bytes, level_bytes, score_bytes, season_bytes, seasons_bytes, position_bytes, encoded}
use Rattle.saving.specs.Saving.{save, save_code, saved_bytes}
use Rattle.round_trips.specs.Promises.{upgraded, ReadsSaved, SavesRead, Reopens}
use Rattle.saving.proofs.ByteLaws.{length-to_bytes, unsigned-lt, unsigned_back, signed_back, unsigned-again, signed-again}
use Rattle.saving.proofs.Lengths.{length-seasons, length-encoded}
use Rattle.std.specs.Prelude.{Ok}

-- ---- a command with an index byte and eight bytes more, at an offset of a stream
module _ (x : List ℕ) (at first k : ℕ) (bs u : List ℕ) (e : drop at x ≡ (first ∷ k ∷ bs) ++ u) where
  byte_at : get_or x at 0 ≡ first
  byte_at = rw (add-zero at) at (sym (get_or-drop at x 0 0)) ∙ ap (λ (l : List ℕ). get_or l 0 0) e

  index_at : get_or x (at + 1) 0 ≡ k
  index_at = sym (get_or-drop at x 1 0) ∙ ap (λ (l : List ℕ). get_or l 1 0) e

  operand_at : (n : ℕ) → length bs ≡ n → take n (drop (at + 2) x) ≡ bs
  operand_at n l = rw (← (drop-drop 2 at x), e) (take_at bs u n l)

-- the command of place k among those of n places
season-at : (cells : List ℤ) (n k : ℕ) (u : List ℕ) → k < n
    → (v : List ℕ) × (drop (season_length * k) (seasons_bytes cells n ++ u) ≡ season_bytes k (get_or cells k (pos 0)) ++ v)
unfolding seasons_bytes
season-at cells zero k u l = absurd (not-suc-le-zero l)
season-at cells (suc n) k u l =
    let A = seasons_bytes cells n in
    let B = season_bytes n (get_or cells n (pos 0)) in
    ⊎_elim
    (λ (q : k ≡ n). (u, rw (q, append_assoc A B u) (drop_at A (B ++ u) (season_length * n) (length-seasons cells n))))
    (λ lt. rw (append_assoc A B u) (season-at cells n k (B ++ u) lt))
    (eq-or-lt_of_le (le_of_suc-le-suc l))

-- the opening command tells which of the two it is
opener-back : (outside : Bool) → eqb (opener outside) (opener true) ≡ outside
opener-back true = refl
opener-back false = refl

-- a value in range has 64 bits
pub fits : {v : ℤ} → Within 1099511627776 v → SFits w64 v
fits w = within-fits w64 w (lit< tt)

module _ (s : State) (t : List ℕ) (p : Passed s) (b : Bounded s) (typed : Typed s) where
  abbrev x : List ℕ
  x = encoded s ++ t

  after-score : drop (season_at true 0) x ≡ seasons_bytes s.seasonal s.period ++ (position_bytes s.index s.count ++ t)
  unfolding encoded model_bytes level_bytes score_bytes to_bytes
  after-score = append_assoc (seasons_bytes s.seasonal s.period) (position_bytes s.index s.count) t

  after : (n : ℕ) → drop (season_at true 0 + n) x ≡ drop n (seasons_bytes s.seasonal s.period ++ (position_bytes s.index s.count ++ t))
  after n = rw (← (drop-drop n (season_at true 0) x), after-score)

  model-back : model_in x ≡ s.model
  unfolding encoded model_bytes
  model-back = model-again s.model p.model

  parameter-back : (at n : ℕ) → take 4 (drop at x) ≡ to_bytes 4 n → n ≤ 65536 → unsigned_at x at 4 ≡ n
  parameter-back at n e h = unsigned_back x at 4 n e (lt_of_le_of_lt h (lit< tt))

  parameters-back : (alpha_in x ≡ s.alpha) × (beta_in x ≡ s.beta) × (gamma_in x ≡ s.gamma) × (phi_in x ≡ s.phi)
  unfolding encoded model_bytes to_bytes
  parameters-back =
      (parameter-back (model_at + 3) s.alpha refl b.alpha, parameter-back (model_at + 7) s.beta refl b.beta, parameter-back (model_at + 11) s.gamma refl b.gamma, parameter-back (model_at + 15) s.phi refl b.phi)

  values-back : (level_in x ≡ s.level) × (trend_in x ≡ s.trend)
  unfolding encoded model_bytes level_bytes to_bytes
  values-back = (signed_back x (level_at + 1) s.level refl (fits b.level), signed_back x (level_at + 9) s.trend refl (fits b.trend))

  -- the command 15
  scored-back : scored_in x ≡ true
  unfolding encoded model_bytes level_bytes score_bytes to_bytes
  scored-back = refl

  high_lt : s.score.high < 18446744073709551616
  high_lt = let h = high_le s.score (record { readings = omega (arith, b.readings, b.count); sum = b.sum }) in omega arith

  words_back : (unsigned_at x (score_at + 1) 8 ≡ s.score.readings) × (unsigned_at x (score_at + 9) 8 ≡ s.score.high) × (unsigned_at x (score_at + 17) 8 ≡ s.score.low)
  unfolding encoded model_bytes level_bytes score_bytes to_bytes
  words_back = (
    unsigned_back x (score_at + 1) 8 s.score.readings refl (omega (arith, b.readings, b.count)),
    unsigned_back x (score_at + 9) 8 s.score.high refl high_lt,
    unsigned_back x (score_at + 17) 8 s.score.low refl typed.low,
  )

  score-back : score_in x ≡ s.score
  score-back = rw (scored-back, words_back.0, words_back.1, words_back.2)

  size : length x ≡ size_of s.period + length t
  size = length-append (encoded s) t ∙ ap (λ (n : ℕ). n + length t) (length-encoded s)

  cell-ok : (k : ℕ) → k < 48 → cell_ok s.period k (get_or s.seasonal k (pos 0)) ≡ true
  cell-ok = all_below-at 48 (λ (k : ℕ). cell_ok s.period k (get_or s.seasonal k (pos 0))) p.seasonal

  -- place k
  module _ (k : ℕ) (l : k < s.period) where
    abbrev value : ℤ
    value = get_or s.seasonal k (pos 0)

    command : (v : List ℕ) × (drop (season_at true k) x ≡ season_bytes k value ++ v)
    command = rw (after (season_length * k)) (season-at s.seasonal s.period k (position_bytes s.index s.count ++ t) l)

    cell-back : season_in x k ≡ value
    unfolding season_bytes
    cell-back =
        rw scored-back
        (signed_back x (season_at true k + 2) value
        (operand_at x (season_at true k) 0x12 k (signed_bytes value) command.0 command.1 8 (length-to_bytes 8 (of_z w64 value)))
        (fits (b.cells k (omega (arith, b.period)))))

    season-back : Season x k
    unfolding season_bytes
    season-back =
        record {
          due = rw scored-back (record { byte = byte_at x (season_at true k) 0x12 k (signed_bytes value) command.0 command.1; room = omega (arith, size) });
          index = rw scored-back (index_at x (season_at true k) 0x12 k (signed_bytes value) command.0 command.1);
          value = rw cell-back (rw (lt-ltb k s.period l) at (cell-ok k (omega (arith, b.period))));
        }

  -- the season cells: those of the places, and 0 from m on
  seasonal-back : cells_at x s.period ≡ s.seasonal
  seasonal-back = ext_get_or (pos 0) (cells_at x s.period) s.seasonal (length-cells x s.period ∙ sym typed.cells) (λ k h. cell k (rw (length-cells x s.period) at h) (ltb k s.period) refl)
    where
      cell : (k : ℕ) → k < 48 → (t : Bool) → ltb k s.period ≡ t → get_or (cells_at x s.period) k (pos 0) ≡ get_or s.seasonal k (pos 0)
      cell k h true e = let l = ltb-true k s.period e in cell-read x s.period k b.period l ∙ cell-back k l
      cell k h false e = cell-none x s.period k h (ltb-false k s.period e) ∙ sym (zero_is (get_or s.seasonal k (pos 0)) (rw e at (cell-ok k h)))

  -- the command 13
  last : drop (position_at true s.period) x ≡ position_bytes s.index s.count ++ t
  last =
      after (season_length * s.period) ∙ drop_at (seasons_bytes s.seasonal s.period) (position_bytes s.index s.count ++ t) (season_length * s.period) (length-seasons s.seasonal s.period)

  index_back : index_in x s.period ≡ s.index
  unfolding position_bytes
  index_back = rw scored-back (index_at x (position_at true s.period) 0x13 s.index (to_bytes 8 s.count) t last)

  count-back : count_in x s.period ≡ s.count
  unfolding position_bytes
  count-back =
      rw scored-back
      (unsigned_back x (position_at true s.period + 2) 8 s.count
      (operand_at x (position_at true s.period) 0x13 s.index (to_bytes 8 s.count) t last 8 (length-to_bytes 8 s.count))
      (lt_of_le_of_lt b.count (lit< tt)))

  position-due : Due x (position_at true s.period) 0x13 position_length
  unfolding position_bytes
  position-due =
      record { byte = byte_at x (position_at true s.period) 0x13 s.index (to_bytes 8 s.count) t last; room = omega (arith, size) }

  outside-back : outside_in x ≡ s.outside
  unfolding encoded model_bytes
  outside-back = opener-back s.outside

  model-due : Due x model_at (opener s.outside) model_length
  unfolding encoded model_bytes
  model-due = record { byte = refl; room = omega (arith, size) }

  level-due : Due x level_at 0x11 level_length
  unfolding encoded model_bytes level_bytes to_bytes
  level-due = record { byte = refl; room = omega (arith, size) }

  period-back : period_in x ≡ s.period
  unfolding encoded model_bytes
  period-back = refl

  accepted-back : Accepted x
  accepted-back =
      record {
        model = record {
          due = rw outside-back model-due;
          valid = rw model-back p.model;
          period = rw (model-back, period-back) p.period;
          parameters = rw (outside-back, model-back, parameters-back.0, parameters-back.1, parameters-back.2, parameters-back.3) p.parameters;
        };
        level = record { due = level-due; values = rw (model-back, values-back.0, values-back.1, p.level, p.trend) };
        scored = λ e. omega (arith, size);
        seasons = rw period-back (λ k l. season-back k l);
        position = rw period-back (record { due = rw scored-back position-due; ok = rw (index_back, count-back, p.index, p.count); score = rw (count-back, score-back) p.score });
      }

  decoded-back : decoded x ≡ s
  unfolding decoded
  decoded-back =
      rw (outside-back, period-back, model-back, parameters-back.0, parameters-back.1, parameters-back.2, parameters-back.3, values-back.0, values-back.1, seasonal-back, index_back, count-back, score-back)

-- ---- reading what was saved, whatever follows it, gives the state back
pub read_back : (s : State) (t : List ℕ) → Typed s → check s ≡ 0
    → (open_code (encoded s ++ t) ≡ 0) × (open_offset (encoded s ++ t) ≡ length (encoded s)) × (decoded (encoded s ++ t) ≡ s)
read_back s t l h =
    let p = passed s h in
    let b = bounded s h in
    let a = accepts (accepted-back s t p b l) in
    let e : end_at (scored_in (encoded s ++ t)) (period_in (encoded s ++ t)) ≡ size_of s.period = rw (scored-back s t p b l, period-back s t p b l) in
    (ap (λ (r : Scanned). r.code) a, ap (λ (r : Scanned). r.offset) a ∙ e ∙ sym (length-encoded s), decoded-back s t p b l)

-- and it has command 15
pub has-score : (s : State) (t : List ℕ) → scored_in (encoded s ++ t) ≡ true
unfolding encoded model_bytes level_bytes score_bytes to_bytes
has-score s t = refl

-- ---- the bytes of a stream from an offset on, cut in two
head_at : (s : List ℕ) (at n : ℕ) → at < length s → take (suc n) (drop at s) ≡ get_or s at 0 ∷ take n (drop (suc at) s)
head_at s at n h = rw (drop-cons s at 0 h)

cut_at : (s : List ℕ) (at n k : ℕ) → take (n + k) (drop at s) ≡ take n (drop at s) ++ take k (drop (at + n) s)
cut_at s at n k = take-add n k (drop at s) ∙ ap (λ (l : List ℕ). take n (drop at s) ++ take k l) (drop-drop n at s)

-- after n season values
seasons-cut : (s : List ℕ) (n k : ℕ) → take (season_length * n + k) (drop (season_at (scored_in s) 0) s) ≡ take (season_length * n) (drop (season_at (scored_in s) 0) s) ++ take k (drop (season_at (scored_in s) n) s)
seasons-cut s n k =
    let e : season_at (scored_in s) 0 + season_length * n ≡ season_at (scored_in s) n = omega arith in
    cut_at s (season_at (scored_in s) 0) (season_length * n) k
    ∙ ap (λ (at : ℕ). take (season_length * n) (drop (season_at (scored_in s) 0) s) ++ take k (drop at s)) e

-- a command with an index byte and eight bytes more
indexed-at : (s : List ℕ) (at first i : ℕ) → Due s at first 10 → get_or s (at + 1) 0 ≡ i → take 10 (drop at s) ≡ first ∷ i ∷ take 8 (drop (at + 2) s)
indexed-at s at first i d e =
    let r = d.room in
    let p : suc at ≡ at + 1 = omega arith in
    let q : suc (at + 1) ≡ at + 2 = omega arith in
    rw (head_at s at 9 (omega arith), p, head_at s (at + 1) 8 (omega arith), d.byte, e, q)

module _ (s : List ℕ) (b : AreBytes s) (a : Accepted s) where
  model-same : model_bytes (outside_in s) (model_in s) (period_in s) (alpha_in s) (beta_in s) (gamma_in s) (phi_in s) ≡ take model_length s
  unfolding model_bytes
  model-same =
      let r = a.model.due.room in
      rw (unsigned-again s 3 4 b (omega arith), unsigned-again s 7 4 b (omega arith), unsigned-again s 11 4 b (omega arith), unsigned-again s 15 4 b (omega arith), model-again (model_in s) a.model.valid, ← a.model.due.byte)
      (sym (rw (head_at s 0 18 (omega arith), head_at s 1 17 (omega arith), head_at s 2 16 (omega arith), cut_at s 3 4 12, cut_at s 7 4 8, cut_at s 11 4 4)))

  level-same : level_bytes (level_in s) (trend_in s) ≡ take level_length (drop level_at s)
  unfolding level_bytes
  level-same =
      let r = a.level.due.room in
      rw (signed-again s (level_at + 1) b (omega arith), signed-again s (level_at + 9) b (omega arith), head_at s level_at 16 (omega arith), cut_at s (level_at + 1) 8 8, a.level.due.byte)

  -- the command 15, or nothing of an old snapshot
  score-same : scored_in s ≡ true → score_bytes (score_in s) ≡ take score_length (drop score_at s)
  unfolding score_bytes
  score-same e =
      let r = a.scored e in
      rw (e, unsigned-again s (score_at + 1) 8 b (omega arith), unsigned-again s (score_at + 9) 8 b (omega arith), unsigned-again s (score_at + 17) 8 b (omega arith), head_at s score_at 24 (omega arith), cut_at s (score_at + 1) 8 16, cut_at s (score_at + 9) 8 8, eqb-true (get_or s score_at 0) 0x15 e)

  seasons-same : (n : ℕ) → n ≤ period_in s → seasons_bytes (cells_at s (period_in s)) n ≡ take (season_length * n) (drop (season_at (scored_in s) 0) s)
  unfolding seasons_bytes season_bytes
  seasons-same zero h = refl
  seasons-same (suc n) h =
      let c = a.seasons n h in
      let r = c.due.room in
      let e : season_length * suc n ≡ season_length * n + season_length = omega arith in
      rw (seasons-same n (omega arith), cell-read s (period_in s) n (period-most a.model) h, signed-again s (season_at (scored_in s) n + 2) b (omega arith), e, seasons-cut s n season_length, indexed-at s (season_at (scored_in s) n) 0x12 n c.due c.index)

  position-same : position_bytes (index_in s (period_in s)) (count_in s (period_in s)) ≡ take position_length (drop (position_at (scored_in s) (period_in s)) s)
  unfolding position_bytes
  position-same =
      let r = a.position.due.room in
      rw (unsigned-again s (position_at (scored_in s) (period_in s) + 2) 8 b (omega arith), indexed-at s (position_at (scored_in s) (period_in s)) 0x13 (index_in s (period_in s)) a.position.due refl)

-- ---- saving what was read writes the same bytes, of an old snapshot with command 15 put in
module _ (s : List ℕ) (b : AreBytes s) (h : open_code s ≡ 0) where
  a : Accepted s
  a = accepted s h

  -- the bytes of the seasons and of the position, wherever they stand
  tail-same : seasons_bytes (cells_at s (period_in s)) (period_in s) ++ position_bytes (index_in s (period_in s)) (count_in s (period_in s)) ≡ take (season_length * period_in s + position_length) (drop (season_at (scored_in s) 0) s)
  tail-same =
      rw (seasons-cut s (period_in s) position_length, seasons-same s b a (period_in s) (le_refl (period_in s)), position-same s b a)

  pub saved-back : scored_in s ≡ true → encoded (decoded s) ≡ take (open_offset s) s
  unfolding encoded decoded
  saved-back e =
      let n = season_length * period_in s + position_length in
      let q : end_at true (period_in s) ≡ model_length + (level_length + (score_length + n)) = omega arith in
      let o : open_offset s ≡ end_at true (period_in s) = rw e at (accepted-size s h).0 in
      rw (o, q, cut_at s 0 model_length (level_length + (score_length + n)), cut_at s level_at level_length (score_length + n), cut_at s score_at score_length n, model-same s b a, level-same s b a, score-same s b a e, tail-same, e)

  pub upgraded-back : scored_in s ≡ false → encoded (decoded s) ≡ upgraded s
  unfolding encoded decoded score_bytes to_bytes
  upgraded-back e =
      let n = season_length * period_in s + position_length in
      let q : end_at false (period_in s) ≡ score_at + n = omega arith in
      let o : open_offset s ≡ end_at false (period_in s) = rw e at (accepted-size s h).0 in
      let k : drop score_at (take (score_at + n) s) ≡ take n (drop score_at s) = rw (take-add score_at n s) (drop_at (take score_at s) (take n (drop score_at s)) score_at (length-take-le score_at s a.level.due.room)) in
      rw (o, q, k, cut_at s 0 model_length level_length, model-same s b a, level-same s b a, tail-same, e) (sym (append_assoc (take model_length s) _ _))

decoded-period : (s : List ℕ) → (decoded s).period ≡ period_in s
unfolding decoded
decoded-period s = refl

-- ---- the same in the words of the contracts
stored : (d xs : List ℕ) (n : ℕ) → length xs ≡ n → n ≤ length d → sets d 0 xs ≡ xs ++ drop n d
stored d xs n e h = rw (← e) (sets-eq xs d 0 (rw (zero-add (length xs), e) h) ∙ ap (λ (k : ℕ). xs ++ drop k d) (zero-add (length xs)))

saves : (s : State) (d : List ℕ) → check s ≡ 0 → size_of s.period ≤ length d → save_code s (length d) ≡ 0
unfolding save_code
saves s d ok h = rw (ok, le-leb (size_of s.period) (length d) h)

pub reads-saved : ReadsSaved
unfolding save saved_bytes read rest_of
reads-saved s d full ok h =
    let z = saves s d ok h in
    let n = length-encoded s in
    let w = stored d (encoded s) (size_of s.period) n h in
    let r = read_back s (drop (size_of s.period) d) full ok in
    record {
      saves = rw z;
      reads = rw (z, w, r.0, r.2);
      leaves = rw (z, w, r.1, n) (drop_at (encoded s) (drop (size_of s.period) d) (size_of s.period) n);
    }

pub saves-read : SavesRead
unfolding save saved_bytes read
saves-read s d b h l =
    let z = saves (decoded s) d (accepted-passes s h) (rw (decoded-period s) l) in
    let n : length (encoded (decoded s)) ≡ size_of (period_in s) = length-encoded (decoded s) ∙ ap size_of (decoded-period s) in
    let w = stored d (encoded (decoded s)) (size_of (period_in s)) n l in
    record {
      saves = rw (h, z);
      new = λ e. rw (h, z, w, saved-back s b h e);
      old = λ e. rw (h, z, w, upgraded-back s b h e);
    }

-- a slice that holds one snapshot with command 15 is the snapshot of its state
pub whole : (d : List ℕ) → AreBytes d → in_place_code d ≡ 0 → scored_in d ≡ true → encoded (decoded d) ≡ d
whole d b z e = saved-back d b (one-snapshot d z).0 e ∙ rw (nothing-after d z e) (take_all (length d) d (omega arith))

-- and every state that was read is one that the code's types hold
pub decoded-typed : (s : List ℕ) → AreBytes s → Typed (decoded s)
unfolding decoded
decoded-typed s b = record { cells = length-cells s (period_in s); low = go (scored_in s) }
  where
    go : (t : Bool) → (cond t (score_of (unsigned_at s (score_at + 1) 8) (unsigned_at s (score_at + 9) 8) (unsigned_at s (score_at + 17) 8)) no_score).low < 18446744073709551616
    go true = unsigned-lt s (score_at + 17) 8 b
    go false = omega arith

-- ---- a snapshot that was saved by 10, before there was a region: its first byte changed to 18
reads-encoded : (s : State) → Typed s → check s ≡ 0 → read (encoded s) ≡ record { outcome = Ok tt; state = s }
unfolding read
reads-encoded s full ok = let r = rw (append-nil (encoded s)) at (read_back s [] full ok) in rw (r.0, r.2)

-- so does its old form, where the score is zeros
reads_old : (s : State) → Typed s → check s ≡ 0 → s.score ≡ no_score → read (old_form (encoded s)) ≡ record { outcome = Ok tt; state = s }
reads_old s full ok none =
    let r = rw (append-nil (encoded s)) at (read_back s [] full ok) in
    let h = rw (append-nil (encoded s)) at (has-score s []) in
    let e : score_in (encoded s) ≡ no_score = rw (append-nil (encoded s)) at (score-back s [] (passed s ok) (bounded s ok) full) ∙ none in
    old-forms (encoded s) r.0 h e ∙ reads-encoded s full ok

pub reopens : Reopens
unfolding encoded model_bytes
reopens s full ok outside =
    let passes : check (opened_by true s) ≡ 0 = sym (ap (λ (u : Bool). check (opened_by (not u) s)) outside) ∙ region-laws.same s ∙ ok in
    let typed : Typed (opened_by true s) = record { cells = full.cells; low = full.low } in
    record { bytes = refl; reads = reads-encoded (opened_by true s) typed passes; old = reads_old (opened_by true s) typed passes }
