-- Document 02, W-209: states kept to go back to. A slot is the part of a lent buffer that one of the paper's names has; it holds the snapshot (the paper's group) of the state kept.
use Rattle.std.specs.Prelude.{ℕ, ◌*◌, Bool, ◌&&◌, List, eqb, ltb, leb, length, take, drop, replicate, Ok}
use Rattle.std.proofs.lemmas.List.Edits.{sets}
use Rattle.state.specs.Rejections.{unless, ◌then◌, accepting, outcome, short_buffer, no_checkpoint, rejects, Outcome}
use Rattle.state.specs.States.{check, no_state}
use Rattle.state.specs.declared.State.{State}
use Rattle.layout.specs.Layout.{size_of}
use Rattle.snapshot.specs.Snapshots.{open_code, decoded}
use Rattle.snapshot.specs.declared.Opened.{Opened}
use Rattle.saving.specs.Encoding.{encoded}

-- the names 0 to 3
abbrev pub slots : ℕ
slots = 4

-- a slot has room for the longest snapshot, that of a season of 48
abbrev pub slot_size : ℕ
slot_size = size_of 48

abbrev pub checkpoints_size : ℕ
checkpoints_size = slot_size * slots

-- where a slot begins, and its bytes
abbrev pub slot_at : ℕ → ℕ
slot_at slot = slot_size * slot

abbrev pub slot_in : List ℕ → ℕ → List ℕ
slot_in d slot = take slot_size (drop (slot_at slot) d)

-- before the first state is kept: no byte 0 begins a snapshot
abbrev pub no_checkpoints : List ℕ
no_checkpoints = replicate checkpoints_size 0

-- ---- 50: what rejects keeping a state in a buffer of so much room, or 0
unfoldable pub store_code : State → ℕ → ℕ → ℕ
store_code s slot room =
    check s
    then unless (ltb slot slots) no_checkpoint
    then unless (leb checkpoints_size room) short_buffer

-- the call: its answer, and the bytes that the buffer then holds
unfoldable pub store : State → ℕ → ℕ → Outcome
store s slot room = outcome (store_code s slot room)

unfoldable pub stored_bytes : State → ℕ → List ℕ → List ℕ
stored_bytes s slot d = accepting (store_code s slot (length d)) (sets d (slot_at slot) (encoded s)) (λ (n : ℕ). d)

-- ---- 51: a name holds something where its slot begins with a snapshot that is accepted
unfoldable pub is_held : ℕ → List ℕ → Bool
is_held slot d = ltb slot slots && leb checkpoints_size (length d) && eqb (open_code (slot_in d slot)) 0

unfoldable pub restore_code : ℕ → List ℕ → ℕ
restore_code slot d = unless (is_held slot d) no_checkpoint

abbrev pub nothing_kept : Opened
nothing_kept = record { outcome = rejects no_checkpoint; state = no_state }

-- the call: the state kept, or the rejection; the buffer stays as it is
unfoldable pub restore : ℕ → List ℕ → Opened
restore slot d =
    accepting (restore_code slot d) (record { outcome = Ok tt; state = decoded (slot_in d slot) }) (λ (n : ℕ). nothing_kept)
