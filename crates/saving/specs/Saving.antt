-- Document 01, "Commands" and the refusal 12 of a snapshot (the paper's group): saving the one of a state.
use Rattle.std.specs.Prelude.{ℕ, ◌+◌, cond, ◌&&◌, List, leb, length, Result}
use Rattle.std.proofs.lemmas.List.Edits.{sets}
use Rattle.state.specs.Rejections.{unless, ◌then◌, outcome, short_buffer, accepting, Outcome}
use Rattle.state.specs.States.{check}
use Rattle.state.specs.declared.State.{State}
use Rattle.layout.specs.Answers.{length_answer}
use Rattle.layout.specs.Layout.{model_at, size_of}
use Rattle.saving.specs.Encoding.{encoded}
use Rattle.state.specs.declared.Rejection.{Rejection}

-- the bytes needed are told before anything is written
unfoldable pub bytes_needed : State → Result ℕ Rejection
bytes_needed s = length_answer (check s) (size_of s.period)

-- what rejects saving into so much room, or 0
unfoldable pub save_code : State → ℕ → ℕ
save_code s room = check s then unless (leb (size_of s.period) room) short_buffer

-- the call: its answer, and the bytes that the buffer then holds
unfoldable pub save : State → ℕ → Outcome
save s room = outcome (save_code s room)

unfoldable pub saved_bytes : State → List ℕ → List ℕ
saved_bytes s buffer = accepting (save_code s (length buffer)) (sets buffer model_at (encoded s)) (λ (n : ℕ). buffer)

-- bytes written from an offset of a slice on, where there is room for all of them; else it stays as it is
unfoldable pub written : List ℕ → ℕ → List ℕ → List ℕ
written d at bytes = cond (leb (at + length bytes) (length d)) (sets d at bytes) d

-- the snapshot of a state written over a slice, by no more season values than a state has cells
unfoldable pub snapshot_written : State → List ℕ → List ℕ
snapshot_written s d =
    cond (leb s.period 48 && leb (size_of s.period) (length d)) (sets d model_at (encoded s)) d
