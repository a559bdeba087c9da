-- The promises about reading: the state beside a rejection, the offset that a rejection is told with, and old snapshots.
use Rattle.std.specs.Prelude.{ℕ, ◌+◌, ◌≤◌, ◌<◌, ◌≡◌, ◌⊎◌, true, List, ◌++◌, length, take, drop, get_or}
use Rattle.state.specs.Rejections.{truncated, bad_model}
use Rattle.state.specs.Scores.{no_score}
use Rattle.state.specs.States.{check}
use Rattle.layout.specs.CommandTable.{command_size, score_length}
use Rattle.layout.specs.Layout.{score_at, scored_in, score_in}
use Rattle.snapshot.specs.Snapshots.{open_code, open_offset, read}

-- the state beside a rejection is one that every check refuses
abbrev pub RejectedState : Type 0
RejectedState = (s : List ℕ) → (open_code s ≡ 0 → ⊥) → check (read s).state ≡ bad_model

-- the offset lies in the stream. Rejection 4 is told with the stream's length where no command is begun, else with the offset of a command that the bytes end inside
pub record Located (s : List ℕ) : Type 0 where
  pub within : open_offset s ≤ length s
  pub cut : open_code s ≡ truncated → (open_offset s ≡ length s) ⊎ ((open_offset s < length s) × (length s < open_offset s + command_size (get_or s (open_offset s) 0)))

abbrev pub Offsets : Type 0
Offsets = (s : List ℕ) → Located s

-- a snapshot without its command 15, as it was saved before there was one (document 02, W-204), before whatever follows it
abbrev pub old_form : List ℕ → List ℕ
old_form s = take score_at s ++ drop (score_at + score_length) s

-- with a score of zeros it is read as the same state
abbrev pub OldForms : Type 0
OldForms = (s : List ℕ) → open_code s ≡ 0 → scored_in s ≡ true → score_in s ≡ no_score → read (old_form s) ≡ read s
