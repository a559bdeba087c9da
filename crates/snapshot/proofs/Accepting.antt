-- What an accepted snapshot has, command for command, and that what has it is accepted.
use Prim.Native.Nat.{ℕ, zero, suc, ◌+◌, ◌-◌, ◌≤◌, ◌<◌}
use mathlib.Core.Path.{◌≡◌, refl, ap}
use mathlib.Core.Bool.{Bool, true, false, cond, ◌&&◌}
use mathlib.Core.List.{List}
use native.Mathlib.Decide.{dec_le}
use native.Mathlib.Omega.{arith}
use borrow.Author.Tests.{ltb-true, leb-true, eqb-true, lt-ltb, le-leb, eq-eqb}
use lib.Dec.{eqb, ltb, eqb-suc-zero}
use lib.ListN.{length, get_or}
use Rattle.state.specs.Rejections.{unless, unknown_command, out_of_place, truncated}
use Rattle.state.specs.Fixed.{in_range}
use Rattle.models.specs.Models.{has_season, valid_model, period_ok}
use Rattle.state.specs.Scores.{score_ok}
use Rattle.state.specs.States.{parameters_code, trend_ok, index_ok, count_ok}
use Rattle.state.proofs.Passing.{period-le}
use Rattle.integers.proofs.Tests.{both}
use Rattle.state.proofs.Tests.{unless-zero, then-zero}
use Rattle.layout.specs.CommandTable.{command_size, is_command, opener, model_length, level_length, score_length, season_length, position_length}
use Rattle.layout.specs.Layout.{model_at, level_at, score_at, season_at, position_at, end_at, outside_in, scored_in, model_in, period_in, alpha_in, beta_in, gamma_in, phi_in, level_in, trend_in, score_in, season_index_in, season_in, index_in, count_in}
use Rattle.snapshot.specs.Snapshots.{due_code, model_code, level_code, score_code, season_code, position_code, finished, scan_position, scan_seasons, scan, open_code, open_offset}
use Rattle.snapshot.specs.Facts.{Room}
use Rattle.snapshot.specs.Snapshots.{Scanned}

-- the command that is due at an offset stands there, whole
pub record Due (s : List ℕ) (at first size : ℕ) : Type 0 where
  pub byte : get_or s at 0 ≡ first
  pub room : at + size ≤ length s

pub due : (s : List ℕ) (at first : ℕ) → due_code s at first ≡ 0 → Due s at first (command_size first)
unfolding due_code
due s at first h =
    let c = then-zero (unless (ltb at (length s)) truncated) _ h in
    let d = then-zero (unless (is_command (get_or s at 0)) unknown_command) _ c.1 in
    let e = then-zero (unless (eqb (get_or s at 0) first) out_of_place) _ d.1 in
    let l = ltb-true at (length s) (unless-zero _ 3 c.0) in
    let w = leb-true (command_size first) (length s - at) (unless-zero _ 3 e.1) in
    record { byte = eqb-true (get_or s at 0) first (unless-zero _ 2 e.0); room = omega arith }

pub is-due : {s : List ℕ} {at first : ℕ} → is_command first ≡ true → 0 < command_size first → Due s at first (command_size first) → due_code s at first ≡ 0
unfolding due_code
is-due {s} {at} {first} i p d =
    let r = d.room in
    rw (lt-ltb at (length s) (omega arith), d.byte, i, eq-eqb first first refl, le-leb (command_size first) (length s - at) (omega arith))

-- ---- the command 10 or 18
pub opener-size : (outside : Bool) → command_size (opener outside) ≡ model_length
unfolding command_size
opener-size true = refl
opener-size false = refl

pub opener-command : (outside : Bool) → is_command (opener outside) ≡ true
unfolding is_command command_size
opener-command true = refl
opener-command false = refl

pub record Model (s : List ℕ) : Type 0 where
  pub due : Due s model_at (opener (outside_in s)) model_length
  pub valid : valid_model (model_in s) ≡ true
  pub period : period_ok (model_in s) (period_in s) ≡ true
  pub parameters : parameters_code (outside_in s) (model_in s) (alpha_in s) (beta_in s) (gamma_in s) (phi_in s) ≡ 0

pub model : (s : List ℕ) → model_code s ≡ 0 → Model s
unfolding model_code
model s h =
    let c = then-zero _ _ h in
    let d = then-zero _ _ c.1 in
    let e = then-zero _ _ d.1 in
    record {
      due = rw (opener-size (outside_in s)) at (due s model_at (opener (outside_in s)) c.0);
      valid = unless-zero _ 4 d.0;
      period = unless-zero _ 5 e.0;
      parameters = e.1;
    }

is-model : {s : List ℕ} → Model s → model_code s ≡ 0
unfolding model_code
is-model {s} c =
    let n = opener-size (outside_in s) in
    rw (is-due {s = s} {at = model_at} {first = opener (outside_in s)} (opener-command (outside_in s)) (omega arith) (rw n c.due), c.valid, c.period, c.parameters)

pub period-most : {s : List ℕ} → Model s → period_in s ≤ 48
period-most {s} c = period-le (has_season (model_in s)) (period_in s) c.period

-- ---- the command 11
pub record Level (s : List ℕ) : Type 0 where
  pub due : Due s level_at 0x11 level_length
  pub values : (in_range (level_in s) && trend_ok (model_in s) (trend_in s)) ≡ true

pub level : (s : List ℕ) → level_code s ≡ 0 → Level s
unfolding level_code command_size
level s h =
    let c = then-zero _ _ h in
    record { due = due s level_at 0x11 c.0; values = unless-zero _ 8 c.1 }

is-level : {s : List ℕ} → Level s → level_code s ≡ 0
unfolding level_code is_command command_size
is-level c = rw (is-due refl (omega arith) c.due, c.values)

-- ---- the command 15, where there is one
pub score : (s : List ℕ) → score_code s ≡ 0 → scored_in s ≡ true → score_at + score_length ≤ length s
unfolding score_code command_size
score s h e = (due s score_at 0x15 (rw e at h)).room

is-score : (s : List ℕ) → (scored_in s ≡ true → score_at + score_length ≤ length s) → score_code s ≡ 0
unfolding score_code is_command command_size
is-score s room = go (scored_in s) refl
  where
    go : (t : Bool) → scored_in s ≡ t → cond t (due_code s score_at 0x15) 0 ≡ 0
    go true e = is-due refl (omega arith) (record { byte = eqb-true (get_or s score_at 0) 0x15 e; room = room e })
    go false e = refl

-- ---- the command 12 of index k
pub record Season (s : List ℕ) (k : ℕ) : Type 0 where
  pub due : Due s (season_at (scored_in s) k) 0x12 season_length
  pub index : season_index_in s k ≡ k
  pub value : in_range (season_in s k) ≡ true

pub season : (s : List ℕ) (k : ℕ) → season_code s k ≡ 0 → Season s k
unfolding season_code command_size
season s k h =
    let c = then-zero _ _ h in
    let d = then-zero _ _ c.1 in
    record { due = due s (season_at (scored_in s) k) 0x12 c.0; index = eqb-true (season_index_in s k) k (unless-zero _ 7 d.0); value = unless-zero _ 8 d.1 }

is-season : {s : List ℕ} {k : ℕ} → Season s k → season_code s k ≡ 0
unfolding season_code is_command command_size
is-season {s} {k} c = rw (is-due refl (omega arith) c.due, c.index, eq-eqb k k refl, c.value)

-- ---- the command 13, after m places
pub record Position (s : List ℕ) (m : ℕ) : Type 0 where
  pub due : Due s (position_at (scored_in s) m) 0x13 position_length
  pub ok : (index_ok m (index_in s m) && count_ok (count_in s m)) ≡ true
  pub score : score_ok (count_in s m) (score_in s) ≡ true

pub position : (s : List ℕ) (m : ℕ) → position_code s m ≡ 0 → Position s m
unfolding position_code command_size
position s m h =
    let c = then-zero _ _ h in
    let d = then-zero _ _ c.1 in
    record { due = due s (position_at (scored_in s) m) 0x13 c.0; ok = unless-zero _ 9 d.0; score = unless-zero _ 16 d.1 }

is-position : {s : List ℕ} {m : ℕ} → Position s m → position_code s m ≡ 0
unfolding position_code is_command command_size
is-position c = rw (is-due refl (omega arith) c.due, c.ok, c.score)

-- ---- one command after the other: nothing is rejected where no command is
finished-zero : (at code : ℕ) (r : Scanned) → (finished at code r).code ≡ 0 → (code ≡ 0) × (r.code ≡ 0)
finished-zero at zero r h = (refl, h)
finished-zero at (suc n) r h = let e = rw (eqb-suc-zero n) at h in absurd (omega arith)

seasons : (s : List ℕ) (k n : ℕ) (r : Scanned) → (scan_seasons s k n r).code ≡ 0 → ((j : ℕ) → k ≤ j → j < k + n → Season s j) × (r.code ≡ 0)
unfolding scan_seasons
seasons s k zero r h = (λ j l u. absurd (omega arith), h)
seasons s k (suc n) r h =
    let f = finished-zero (season_at (scored_in s) k) (season_code s k) (scan_seasons s (suc k) n r) h in
    let g = seasons s (suc k) n r f.1 in
    (λ j l u. first j f.0 g.0 l u (dec_le (suc k) j), g.1)
  where
    first : (j : ℕ) → season_code s k ≡ 0 → ((i : ℕ) → suc k ≤ i → i < suc k + n → Season s i) → k ≤ j → j < k + suc n → Dec (suc k ≤ j) → Season s j
    first j z g l u (yes q) = g j q (omega arith)
    first j z g l u (no q) = let e : j ≡ k = omega arith in rw e (season s k z)

are-seasons : (s : List ℕ) (k n : ℕ) (r : Scanned) → ((j : ℕ) → k ≤ j → j < k + n → Season s j) → scan_seasons s k n r ≡ r
unfolding scan_seasons
are-seasons s k zero r c = refl
are-seasons s k (suc n) r c =
    rw (is-season (c k (omega arith) (omega arith)), are-seasons s (suc k) n r (λ j l u. c j (omega arith) (omega arith)))

-- ---- a whole snapshot
pub record Accepted (s : List ℕ) : Type 0 where
  pub model : Model s
  pub level : Level s
  pub scored : scored_in s ≡ true → score_at + score_length ≤ length s
  pub seasons : (k : ℕ) → k < period_in s → Season s k
  pub position : Position s (period_in s)

pub accepted : (s : List ℕ) → open_code s ≡ 0 → Accepted s
unfolding scan
accepted s h =
    let m = finished-zero _ _ _ h in
    let l = finished-zero _ _ _ m.1 in
    let c = finished-zero _ _ _ l.1 in
    let x = seasons s 0 (period_in s) _ c.1 in
    let p = finished-zero _ _ _ x.1 in
    record { model = model s m.0; level = level s l.0; scored = score s c.0; seasons = λ k u. x.0 k (omega arith) (omega arith); position = position s (period_in s) p.0 }

-- the code and the offset of an accepted snapshot
pub accepts : {s : List ℕ} → Accepted s → scan s ≡ record { code = 0; offset = end_at (scored_in s) (period_in s) }
unfolding scan
accepts {s} a =
    rw (is-model a.model, is-level a.level, is-score s a.scored, are-seasons s 0 (period_in s) (scan_position s (period_in s)) (λ k l u. a.seasons k (omega arith)), is-position a.position)

-- it lies in the stream, and its index is one of its places
pub accepted-size : (s : List ℕ) → open_code s ≡ 0 → (open_offset s ≡ end_at (scored_in s) (period_in s)) × (open_offset s ≤ length s)
accepted-size s h =
    let a = accepted s h in
    let e = ap (λ (r : Scanned). r.offset) (accepts a) in
    (e, rw e a.position.due.room)

index-most : (m p : ℕ) → index_ok m p ≡ true → p ≤ m
index-most zero p h = omega (arith, eqb-true p 0 h)
index-most (suc m) p h = omega (arith, ltb-true p (suc m) (rw (eqb-suc-zero m) at h))

pub accepted-room : (s : List ℕ) → open_code s ≡ 0 → Room (scored_in s) s (period_in s) (index_in s (period_in s))
accepted-room s h =
    let a = accepted s h in
    record {
      size = a.position.due.room;
      period = period-most a.model;
      index = index-most (period_in s) (index_in s (period_in s)) (both (index_ok (period_in s) (index_in s (period_in s))) (count_ok (count_in s (period_in s))) a.position.ok).0;
    }
