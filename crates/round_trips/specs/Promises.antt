-- The promises about saving and reading together: both round trips of a snapshot, and a snapshot saved before W-201.
use Rattle.std.specs.Prelude.{ℕ, ◌≤◌, ◌≡◌, true, false, List, ◌∷◌, ◌++◌, length, take, drop, set, replicate, Ok}
use Rattle.state.specs.Scores.{no_score}
use Rattle.state.specs.States.{Typed, check}
use Rattle.state.specs.Regions.{opened_by, is_usual, plain_check}
use Rattle.state.specs.declared.State.{State}
use Rattle.layout.specs.Bytes.{AreBytes}
use Rattle.layout.specs.CommandTable.{opener}
use Rattle.layout.specs.Layout.{model_at, score_at, size_of, scored_in, period_in}
use Rattle.snapshot.specs.Snapshots.{open_code, open_offset, read, rest_of}
use Rattle.snapshot.specs.Promises.{old_form}
use Rattle.saving.specs.Encoding.{encoded}
use Rattle.saving.specs.Saving.{save, saved_bytes}

-- a state that passes is saved into any buffer with room; what was saved is read as the state, and the rest is what followed it
pub record ReadBack (s : State) (d : List ℕ) : Type 0 where
  pub saves : save s (length d) ≡ (Ok tt)
  pub reads : read (saved_bytes s d) ≡ record { outcome = Ok tt; state = s }
  pub leaves : rest_of (saved_bytes s d) ≡ drop (size_of s.period) d

abbrev pub ReadsSaved : Type 0
ReadsSaved = (s : State) (d : List ℕ) → Typed s → check s ≡ 0 → size_of s.period ≤ length d → ReadBack s d

-- an old snapshot (without command 15) as it is saved: 15 and 24 bytes 0 are put in after 11
abbrev pub upgraded : List ℕ → List ℕ
upgraded s = take score_at s ++ ((0x15 ∷ replicate 24 0) ++ drop score_at (take (open_offset s) s))

-- what was read from an accepted snapshot is saved into any buffer with room; the buffer then holds the snapshot's bytes, or those of the upgraded one, and its own later ones
pub record SavedBack (s d : List ℕ) : Type 0 where
  pub saves : save (read s).state (length d) ≡ (Ok tt)
  pub new : scored_in s ≡ true → saved_bytes (read s).state d ≡ take (open_offset s) s ++ drop (size_of (period_in s)) d
  pub old : scored_in s ≡ false → saved_bytes (read s).state d ≡ upgraded s ++ drop (size_of (period_in s)) d

abbrev pub SavesRead : Type 0
SavesRead = (s d : List ℕ) → AreBytes s → open_code s ≡ 0 → size_of (period_in s) ≤ length d → SavedBack s d

-- a snapshot with gains outside the usual region that was saved by 10 (before document 02, W-201), its first byte changed to 18, is the one that saving now writes, and opens the state
pub record Reopened (s : State) : Type 0 where
  pub bytes : set (encoded (opened_by false s)) model_at (opener true) ≡ encoded (opened_by true s)
  pub reads : read (set (encoded (opened_by false s)) model_at (opener true)) ≡ record { outcome = Ok tt; state = opened_by true s }
  -- in the form in which such a snapshot was saved, without command 15
  pub old : s.score ≡ no_score → read (set (old_form (encoded (opened_by false s))) model_at (opener true)) ≡ record { outcome = Ok tt; state = opened_by true s }

abbrev pub Reopens : Type 0
Reopens = (s : State) → Typed s → plain_check s ≡ 0 → is_usual s ≡ false → Reopened s
