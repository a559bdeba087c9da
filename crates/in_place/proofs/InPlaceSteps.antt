-- A call in place works on the numbers of its slice: they are those of the state that the slice holds, and what is written is the snapshot of the next one.
use Prim.Native.Nat.{ℕ, ◌+◌, ◌-◌, ◌%◌, ◌≤◌, ◌<◌}
use mathlib.Core.Path.{◌≡◌, refl, sym, ap, subst, ◌∙◌}
use mathlib.Core.Bool.{Bool, true, false, cond, ◌||◌, false≢true}
use mathlib.Core.List.{List}
use native.Mathlib.Nat.{mod-lt}
use native.Mathlib.Omega.{arith}
use borrow.Author.Tests.{eq-eqb, ne_eqb, eqb-true, eqb-false, leb-true, le-leb, ltb-true}
use lib.Dec.{eqb, leb}
use lib.IntN.{ℤ, pos}
use lib.ListN.{length, get_or, set}
use Rattle.integers.specs.Bounds.{Within}
use Rattle.integers.proofs.Bounds.{within-zero}
use Rattle.state.specs.Rejections.{unless, ◌then◌, short_buffer, gives, outcome}
use Rattle.state.specs.declared.Rejection.{Rejection}
use Rattle.state.proofs.Answers.{as-outcome, given-accepted, check-ends, check-keeps-then}
use Rattle.std.specs.Prelude.{Result, Ok, Err, IsErrAnd}
use Rattle.state.specs.Fixed.{max_count}
use Rattle.models.specs.Models.{has_season, ties_to_even}
use Rattle.state.specs.Scores.{no_score}
use Rattle.state.specs.States.{check, index_ok, count_ok}
use Rattle.state.specs.declared.Score.{Score}
use Rattle.state.specs.declared.State.{State}
use Rattle.state.proofs.Tests.{unless-zero, then-none, then-assoc}
use Rattle.state.proofs.Passing.{bounded, no_season, with_season}
use Rattle.integers.proofs.Tests.{both}
use Rattle.calendars.specs.Turns.{next_index}
use Rattle.ets.specs.Steps.{damped_trend, terms_of, residual_of, new_level, new_trend, new_season, seasonal_by, new_seasonal, square_at, score_after, after_reading, advanced, after_missing, corrected, step_code, missing_code}
use Rattle.forecasts.specs.Forecasts.{season_at as seasonAhead}
use Rattle.ets.specs.Updates.{numbers_of, corrections, update, advance, update_missing}
use Rattle.state.specs.declared.Numbers.{Numbers}
use Rattle.ets.specs.declared.Update.{Update}
use Rattle.ets.proofs.StepLaws.{step-facts}
use Rattle.ets.proofs.UpdateLaws.{update-is, update-missing-is}
use Rattle.layout.specs.Bytes.{AreBytes}
use Rattle.layout.specs.CommandTable.{score_length}
use Rattle.layout.specs.Layout.{score_at, end_at, size_of, scored_in, period_in, score_in, season_in, index_in, count_in}
use Rattle.snapshot.specs.Snapshots.{open_code, open_offset, cells_at, decoded}
use Rattle.slices.specs.Slices.{spare, in_place_code, score_value, state_value, numbers_in, checked_in, opened_in}
use Rattle.snapshot.specs.Facts.{Room}
use Rattle.slices.specs.declared.Checked.{Checked}
use Rattle.snapshot.proofs.Accepting.{accepted, accepted-size, accepted-room}
use Rattle.slices.proofs.SliceLaws.{one-snapshot}
use Rattle.snapshot.proofs.Decoded.{cell-read, cell-none, accepted-passes, length-decoded}
use Rattle.saving.specs.Encoding.{model_bytes, encoded}
use Rattle.in_place.specs.InPlace.{room_code, rewrite_code, rejection, bytes_after}
use Rattle.in_place.specs.Facts.{ahead_in, Held, advanced_on, season_put, step_written}
use Rattle.in_place.proofs.Patches.{snapshot_of, level-written, score-written, season-written, position-written}
use Rattle.saving.proofs.Lengths.{length-model, length-encoded}
use Rattle.round_trips.proofs.RoundTrip.{whole}

-- ---- the numbers of a slice that holds one snapshot are those of its state
module _ (d : List ℕ) (ok : open_code d ≡ 0) where
  pub season-value : (k : ℕ) → k < (decoded d).period → season_in d k ≡ get_or (decoded d).seasonal k (pos 0)
  unfolding decoded
  season-value k h = sym (cell-read d (period_in d) k (accepted-room d ok).period h)

  index_in-ok : index_ok (period_in d) (index_in d (period_in d)) ≡ true
  index_in-ok = (both (index_ok (period_in d) (index_in d (period_in d))) (count_ok (count_in d (period_in d))) (accepted d ok).position.ok).0

  season-due : cond (eqb (period_in d) 0) (pos 0) (season_in d (index_in d (period_in d))) ≡ get_or (cells_at d (period_in d)) (index_in d (period_in d)) (pos 0)
  season-due = go (eqb (period_in d) 0) refl
    where
      go : (t : Bool) → eqb (period_in d) 0 ≡ t → cond t (pos 0) (season_in d (index_in d (period_in d))) ≡ get_or (cells_at d (period_in d)) (index_in d (period_in d)) (pos 0)
      go true e =
          let z : index_in d (period_in d) ≡ 0 = eqb-true (index_in d (period_in d)) 0 (rw e at index_in-ok) in
          sym (cell-none d (period_in d) (index_in d (period_in d)) (omega arith) (omega (arith, eqb-true (period_in d) 0 e)))
      go false e =
          sym (cell-read d (period_in d) (index_in d (period_in d)) (accepted-room d ok).period (ltb-true (index_in d (period_in d)) (period_in d) (rw e at index_in-ok)))

  numbers-are : numbers_in d ≡ numbers_of (decoded d)
  unfolding decoded
  numbers-are = rw season-due

held : (d : List ℕ) → AreBytes d → in_place_code d ≡ 0 → Held d (checked_in d)
unfolding decoded
held d b z =
    let o = one-snapshot d z in
    record {
      scored = refl;
      even = refl;
      period = refl;
      index = refl;
      numbers = numbers-are d o.0;
      passes = accepted-passes d o.0;
      whole = whole d b z;
      room = accepted-room d o.0;
    }

-- and so are those that a call goes by
pub found : (d : List ℕ) {x : Checked} → AreBytes d → Ok x ≡ opened_in d → (in_place_code d ≡ 0) × Held d x
unfolding opened_in
found d {x} b q =
    let g = given-accepted (in_place_code d) (checked_in d) x (sym q) in
    (g.0, subst (λ (y : Checked). Held d y) g.1 (held d b g.0))

pub not-found : (d : List ℕ) {e : Rejection} → Err e ≡ opened_in d → Err e ≡ outcome (in_place_code d)
unfolding opened_in
not-found d q = as-outcome (in_place_code d) (checked_in d) q

-- ---- the season value of a horizon
module _ (d : List ℕ) (ok : open_code d ≡ 0) (h : ℕ) where
  abbrev pub ahead_value : ℤ
  ahead_value = ahead_in d (decoded d).period (decoded d).index h

  pub ahead_within : Within 1099511627776 ahead_value
  ahead_within = go (eqb (decoded d).period 0) refl (eqb h 0)
    where
      go : (t : Bool) → eqb (decoded d).period 0 ≡ t → (u : Bool) → Within 1099511627776 (cond (t || u) (pos 0) (season_in d (((decoded d).index + h - 1) % (decoded d).period)))
      go true e u = within-zero 1099511627776
      go false e true = within-zero 1099511627776
      go false e false =
          let b = bounded (decoded d) (accepted-passes d ok) in
          let m : 0 < (decoded d).period = omega (arith, eqb-false (decoded d).period 0 e) in
          let l = mod-lt ((decoded d).index + h - 1) m in
          rw (season-value d ok (((decoded d).index + h - 1) % (decoded d).period) l) (b.cells _ (omega arith))

  pub ahead-is : 1 ≤ h → ahead_value ≡ seasonAhead (decoded d) h
  unfolding seasonAhead
  ahead-is l = go (has_season (decoded d).model) refl
    where
      go : (t : Bool) → has_season (decoded d).model ≡ t → ahead_in d (decoded d).period (decoded d).index h ≡ cond t (get_or (decoded d).seasonal (((decoded d).index + h - 1) % (decoded d).period) (pos 0)) (pos 0)
      go true e =
          let w = with_season (decoded d) (accepted-passes d ok) e in
          let m : 0 < (decoded d).period = omega arith in
          rw (ne_eqb (decoded d).period 0 (λ z. omega arith), ne_eqb h 0 (λ z. omega arith)) (season-value d ok (((decoded d).index + h - 1) % (decoded d).period) (mod-lt ((decoded d).index + h - 1) m))
      go false e = rw (eq-eqb (decoded d).period 0 (no_season (decoded d) (accepted-passes d ok) e).period)

-- ---- what is written
encoded-is : (s : State) → encoded s ≡ snapshot_of (model_bytes s.outside s.model s.period s.alpha s.beta s.gamma s.phi) s.level s.trend s.score s.seasonal s.period s.index s.count
unfolding encoded
encoded-is s = refl

module _ (s : State) (ok : check s ≡ 0) (full : length s.seasonal ≡ 48) where
  abbrev head : List ℕ
  head = model_bytes s.outside s.model s.period s.alpha s.beta s.gamma s.phi

  head-length : length head ≡ 19
  head-length = length-model s.outside s.model s.period s.alpha s.beta s.gamma s.phi

  abbrev snapshot : Score → List ℤ → List ℕ
  snapshot score cells = snapshot_of head s.level s.trend score cells s.period s.index s.count

  season-put : (v : ℤ) → season_put (snapshot s.score s.seasonal) s.period s.index v ≡ snapshot s.score (cond (has_season s.model) (set s.seasonal s.index v) s.seasonal)
  season-put v = go (has_season s.model) refl
    where
      go : (t : Bool) → has_season s.model ≡ t → season_put (snapshot s.score s.seasonal) s.period s.index v ≡ snapshot s.score (cond t (set s.seasonal s.index v) s.seasonal)
      go true h =
          let w = with_season s ok h in
          rw (ne_eqb s.period 0 (λ z. omega arith)) (season-written head head-length s.level s.trend s.score s.seasonal s.period s.index s.count s.index v w.index (omega (arith, (bounded s ok).index)))
      go false h = rw (eq-eqb s.period 0 (no_season s ok h).period)

  seasons-are : (e : ℤ) → cond (has_season s.model) (set s.seasonal s.index (new_season (terms_of s) e)) s.seasonal ≡ new_seasonal s e
  unfolding seasonal_by
  seasons-are e = refl

  -- level, trend and position, whatever the score and the season's cells
  moved_on : (score : Score) (cells : List ℤ) (l b : ℤ) → advanced_on (snapshot score cells) s.period s.index s.count l b
      ≡ snapshot_of head l b score cells s.period (next_index s.period s.index) (s.count + 1)
  moved_on score cells l b =
      rw (level-written head head-length s.level s.trend score cells s.period s.index s.count l b)
      (position-written head head-length l b score cells s.period s.index s.count (next_index s.period s.index) (s.count + 1))

  pub step-written : (e : ℤ) (u : Update) (score : Score) → u.level ≡ new_level (terms_of s) e → u.trend ≡ new_trend (terms_of s) e → u.season ≡ new_season (terms_of s) e → step_written (encoded s) s.period s.index s.count u score ≡ encoded (corrected s e score)
  step-written e u score el eb es =
      rw (el, eb, es, encoded-is s, encoded-is (corrected s e score), season-put (new_season (terms_of s) e), seasons-are e, score-written head head-length s.level s.trend s.score (new_seasonal s e) s.period s.index s.count score)
      (moved_on score (new_seasonal s e) (new_level (terms_of s) e) (new_trend (terms_of s) e))

  pub missing-written : advanced_on (encoded s) s.period s.index s.count (advanced (terms_of s)) (damped_trend s) ≡ encoded (after_missing s)
  missing-written = rw (encoded-is s, encoded-is (after_missing s)) (moved_on s.score s.seasonal (advanced (terms_of s)) (damped_trend s))

-- ---- the update on the numbers of a state that passes is the step
pub record Direct (s : State) (y : ℤ) (u : Update) : Type 0 where
  pub level : u.level ≡ new_level (terms_of s) (residual_of s y)
  pub trend : u.trend ≡ new_trend (terms_of s) (residual_of s y)
  pub season : u.season ≡ new_season (terms_of s) (residual_of s y)
  pub residual : u.residual ≡ residual_of s y
  pub count : s.count < max_count

module _ (s : State) (ok : check s ≡ 0) (y : ℤ) where
  pub not-direct : {e : Rejection} → Err e ≡ update (ties_to_even s.model) (numbers_of s) y → Err e ≡ outcome (step_code s y)
  not-direct q = as-outcome (step_code s y) (corrections (terms_of s) (residual_of s y)) (q ∙ update-is s ok y)

  pub direct : {u : Update} → Ok u ≡ update (ties_to_even s.model) (numbers_of s) y → (step_code s y ≡ 0) × Direct s y u
  unfolding corrections
  direct {u} q =
      let g = given-accepted (step_code s y) (corrections (terms_of s) (residual_of s y)) u (sym (q ∙ update-is s ok y)) in (
        g.0,
        record {
          level = sym (ap (λ (v : Update). v.level) g.1);
          trend = sym (ap (λ (v : Update). v.trend) g.1);
          season = sym (ap (λ (v : Update). v.season) g.1);
          residual = sym (ap (λ (v : Update). v.residual) g.1);
          count = (step-facts s y g.0).room;
        },
      )

module _ (s : State) (ok : check s ≡ 0) where
  pub not-missed : {e : Rejection} → Err e ≡ update_missing (ties_to_even s.model) (numbers_of s) → Err e ≡ outcome (missing_code s)
  not-missed q = as-outcome (missing_code s) (advance (terms_of s)) (q ∙ update-missing-is s ok)

  pub missed : {u : Update} → Ok u ≡ update_missing (ties_to_even s.model) (numbers_of s) → (missing_code s ≡ 0) × (u ≡ advance (terms_of s))
  missed {u} q =
      let g = given-accepted (missing_code s) (advance (terms_of s)) u (sym (q ∙ update-missing-is s ok)) in
      (g.0, sym g.1)

-- ---- so what a call stored in the saved form, by the numbers that it goes by, is the snapshot of the next state
module _ (d : List ℕ) (x : Checked) (h : Held d x) (e : List ℕ) (w : e ≡ encoded (decoded d)) where
  pub count-is : x.numbers.count ≡ (decoded d).count
  count-is = ap (λ (n : Numbers). n.count) h.numbers

  pub room-is : Room true e x.period x.index
  room-is =
      let n : length e ≡ size_of (decoded d).period = ap length w ∙ length-encoded (decoded d) in
      rw (h.period, h.index) (record { size = omega arith; period = h.room.period; index = h.room.index })

  pub step-stored : (y : ℤ) (u : Update) (score : Score) → Direct (decoded d) y u → score ≡ score_after (decoded d).score (square_at (decoded d) y) → step_written e x.period x.index x.numbers.count u score ≡ encoded (after_reading (decoded d) y)
  step-stored y u score k c =
      let s = decoded d in
      rw (h.period, h.index, count-is, w)
      (step-written s h.passes (length-decoded d) (residual_of s y) u score k.level k.trend k.season
      ∙ ap (λ (n : Score). encoded (corrected s (residual_of s y) n)) c)

  pub missing-stored : (u : Update) → u ≡ advance (terms_of (decoded d)) → advanced_on e x.period x.index x.numbers.count u.level u.trend ≡ encoded (after_missing (decoded d))
  unfolding advance
  missing-stored u q =
      let s = decoded d in
      rw (h.period, h.index, count-is, q, w) (missing-written s h.passes (length-decoded d))

-- ---- the state of the bytes of an accepted slice
pub state-value : (d : List ℕ) → in_place_code d ≡ 0 → state_value d ≡ decoded d
unfolding state_value
state-value d z =
    let r = accepted-room d (one-snapshot d z).0 in
    rw (le-leb (period_in d) 48 r.period, le-leb (end_at (scored_in d) (period_in d)) (length d) r.size)

-- and the score of an accepted one
pub score-value : (d : List ℕ) → in_place_code d ≡ 0 → score_value d ≡ (decoded d).score
unfolding score_value decoded
score-value d z =
    let a = accepted d (one-snapshot d z).0 in
    go (scored_in d) refl (leb (score_at + score_length) (length d)) refl
  where
    go : (t : Bool) → scored_in d ≡ t → (u : Bool) → leb (score_at + score_length) (length d) ≡ u → cond u (score_in d) no_score ≡ score_in d
    go t e true h = refl
    go true e false h = absurd (false≢true (sym h ∙ le-leb (score_at + score_length) (length d) ((accepted d (one-snapshot d z).0).scored e)))
    go false e false h = rw e

-- ---- a slice with room for the saved form is as long as that
pub rewrite-length : (d : List ℕ) → in_place_code d ≡ 0 → room_code d ≡ 0 → length (encoded (decoded d)) ≡ length d
unfolding decoded
rewrite-length d z r =
    let o = one-snapshot d z in
    let n = accepted-size d o.0 in
    let p = leb-true (size_of (period_in d)) (length d) (unless-zero (leb (size_of (period_in d)) (length d)) 11 r) in
    length-encoded (decoded d) ∙ go (scored_in d) refl n.0 n.1 o.1 p
  where
    go : (t : Bool) → scored_in d ≡ t → open_offset d ≡ end_at (scored_in d) (period_in d) → open_offset d ≤ length d → length d - open_offset d ≤ spare (scored_in d) → size_of (period_in d) ≤ length d → size_of (decoded d).period ≡ length d
    go true e n l o p =
        let n' : open_offset d ≡ end_at true (period_in d) = rw e at n in
        let o' : length d - open_offset d ≤ 0 = rw e at o in
        omega arith
    go false e n l o p =
        let n' : open_offset d ≡ end_at false (period_in d) = rw e at n in
        let o' : length d - open_offset d ≤ 25 = rw e at o in
        omega arith

-- ---- the room that a rewritten slice needs, by the numbers that the call goes by
pub room-told : (d : List ℕ) (x : Checked) → Held d x → unless (leb (size_of x.period) (length d)) short_buffer ≡ room_code d
unfolding decoded
room-told d x h = rw h.period

pub room_in : (d : List ℕ) (x : Checked) → Held d x → Room (scored_in d) d x.period x.index
room_in d x h = rw (h.period, h.index) h.room

pub rewritable : (d : List ℕ) → in_place_code d ≡ 0 → room_code d ≡ 0 → rewrite_code d ≡ 0
rewritable d z w = rw (z, w)

-- ---- a call by its rejection: that of the slice, of its room, of the state, or none
module _ (code : State → ℕ) (d : List ℕ) where
  pub by-slice : rejection code d ≡ (in_place_code d then room_code d then code (decoded d))
  by-slice = then-assoc (in_place_code d) (room_code d) (code (decoded d))

  pub by-room : in_place_code d ≡ 0 → rejection code d ≡ (room_code d then code (decoded d))
  by-room z = rw z

  pub by-state : in_place_code d ≡ 0 → room_code d ≡ 0 → rejection code d ≡ (code (decoded d) then 0)
  by-state z w = rw (z, w) (sym (then-none (code (decoded d))))

  pub rejected : {A : Type 0} (n k : ℕ) (v : A) {r : Result A Rejection} {e : Rejection} → rejection code d ≡ (n then k) → Err e ≡ outcome n → IsErrAnd r (λ y. y ≡ e) → r ≡ gives (rejection code d) v
  rejected n k v p q h = rw p (check-ends n k v q h)

  pub kept : (next : State → State) (n k : ℕ) {e : Rejection} → rejection code d ≡ (n then k) → Err e ≡ outcome n → d ≡ bytes_after code next d
  kept next n k p q = rw p (check-keeps-then n k (encoded (next (decoded d))) d q)

  pub accepted-call : in_place_code d ≡ 0 → room_code d ≡ 0 → code (decoded d) ≡ 0 → rejection code d ≡ 0
  accepted-call z w o = rw (z, w, o)
