-- Document 01, "Commands", document 02, W-204, and the refusals 2 to 10, 16 and 17 of a snapshot (the paper's group): reading one.
use Rattle.std.specs.Prelude.{ℕ, zero, suc, ◌-◌, cond, ◌&&◌, List, eqb, ltb, leb, length, drop, get_or, Err, Ok, Result, ⊤}
use Rattle.state.specs.Rejections.{unless, ◌then◌, outcome, unknown_command, out_of_place, truncated, bad_model, bad_period, wrong_index, bad_value, bad_position, bad_score, accepting, Outcome, rejection_of}
use Rattle.state.specs.Fixed.{in_range}
use Rattle.models.specs.Models.{valid_model, period_ok}
use Rattle.state.specs.Scores.{score_ok}
use Rattle.state.specs.States.{parameters_code, trend_ok, index_ok, count_ok, no_state}
use Rattle.layout.specs.CommandTable.{command_size, is_command, opener}
use Rattle.layout.specs.Layout.{model_at, level_at, score_at, season_at, position_at, end_at, outside_in, scored_in, model_in, period_in, alpha_in, beta_in, gamma_in, phi_in, level_in, trend_in, score_in, season_index_in, season_in, index_in, count_in}
unfoldable pub use Rattle.fields.specs.Fields.{cells_at, decoded}
use Rattle.snapshot.specs.declared.Opened.{Opened}
use Rattle.snapshot.specs.declared.reading.Stopped.{Stopped}

-- what rejects the command that is due at an offset, by its first byte, before its operands are looked at; or 0
unfoldable pub due_code : List ℕ → ℕ → ℕ → ℕ
due_code s at first =
    unless (ltb at (length s)) truncated
    then unless (is_command (get_or s at 0)) unknown_command
    then unless (eqb (get_or s at 0) first) out_of_place
    then unless (leb (command_size first) (length s - at)) truncated

-- 18 where the bytes begin with it, else 10
unfoldable pub model_code : List ℕ → ℕ
model_code s =
    due_code s model_at (opener (outside_in s))
    then unless (valid_model (model_in s)) bad_model
    then unless (period_ok (model_in s) (period_in s)) bad_period
    then parameters_code (outside_in s) (model_in s) (alpha_in s) (beta_in s) (gamma_in s) (phi_in s)

-- 11
unfoldable pub level_code : List ℕ → ℕ
level_code s =
    due_code s level_at 0x11
    then unless (in_range (level_in s) && trend_ok (model_in s) (trend_in s)) bad_value

-- after 11 two commands are due: 15, whose operands are tested with 13, or what an old snapshot has next
unfoldable pub score_code : List ℕ → ℕ
score_code s = cond (scored_in s) (due_code s score_at 0x15) 0

-- 12 of index k
unfoldable pub season_code : List ℕ → ℕ → ℕ
season_code s k =
    due_code s (season_at (scored_in s) k) 0x12
    then unless (eqb (season_index_in s k) k) wrong_index
    then unless (in_range (season_in s k)) bad_value

-- 13, after m places: its own operands, then the score
unfoldable pub position_code : List ℕ → ℕ → ℕ
position_code s m =
    due_code s (position_at (scored_in s) m) 0x13
    then unless (index_ok m (index_in s m) && count_ok (count_in s m)) bad_position
    then unless (score_ok (count_in s m) (score_in s)) bad_score

-- what a walk over a snapshot finds: the rejection and the offset of its command, or 0 and the offset of what follows
pub record Scanned : Type 0 where
  pub code : ℕ
  pub offset : ℕ

-- a command's answer with the offset that it stands at
abbrev pub stopped_at : ℕ → Outcome → Result ⊤ Stopped
stopped_at at (Ok u) = Ok u
stopped_at at (Err r) = Err (record { rejection = r; offset = at })

-- the call's answer: the offset of what follows, or the rejection and its offset
abbrev pub scanned : Scanned → Result ℕ Stopped
scanned r = accepting r.code (Ok r.offset) (λ (n : ℕ). Err (record { rejection = rejection_of n; offset = r.offset }))

-- a command at an offset, by its rejection: what follows it is looked at where it is accepted
abbrev pub finished : ℕ → ℕ → Scanned → Scanned
finished at code rest = accepting code rest (λ (n : ℕ). record { code = n; offset = at })

abbrev pub scan_position : List ℕ → ℕ → Scanned
scan_position s m =
    finished (position_at (scored_in s) m) (position_code s m) (record { code = 0; offset = end_at (scored_in s) m })

-- 12 for n places from k on, rising, and then rest
unfoldable pub scan_seasons : List ℕ → ℕ → ℕ → Scanned → Scanned
scan_seasons s k zero rest = rest
scan_seasons s k (suc n) rest = finished (season_at (scored_in s) k) (season_code s k) (scan_seasons s (suc k) n rest)

-- each command is finished before the next is looked at: the rejection and the offset of its command's first byte, or 0 and the bytes that the snapshot has
unfoldable pub scan : List ℕ → Scanned
scan s =
    finished model_at (model_code s)
    (finished level_at (level_code s)
    (finished score_at (score_code s)
    (scan_seasons s 0 (period_in s) (scan_position s (period_in s)))))

abbrev pub open_code : List ℕ → ℕ
open_code s = (scan s).code

abbrev pub open_offset : List ℕ → ℕ
open_offset s = (scan s).offset

-- the call: the state, or the rejection
unfoldable pub read : List ℕ → Opened
read s =
    record { outcome = outcome (open_code s); state = accepting (open_code s) (decoded s) (λ (n : ℕ). no_state) }

-- the rest of the caller's bytes: after an accepted snapshot what follows it, after a rejection the part that begins with the rejected command
unfoldable pub rest_of : List ℕ → List ℕ
rest_of s = drop (open_offset s) s
