-- The promises about whole streams.
use Rattle.std.specs.Prelude.{ℕ, ◌+◌, ◌≤◌, ◌<◌, ◌≡◌, true, false, cond, ◌⊎◌, List, [], ◌∷◌, ◌++◌, length, drop, get_or, Ok}
use Rattle.models.specs.Models.{has_relative_errors}
use Rattle.state.specs.Rejections.{input_too_long, out_of_place, truncated, no_checkpoint, rejection_of}
use Rattle.state.specs.States.{Typed, check}
use Rattle.state.specs.Switching.{switched}
use Rattle.state.specs.declared.State.{State}
use Rattle.layout.specs.Bytes.{AreBytes}
use Rattle.snapshot.specs.Snapshots.{open_code, open_offset, decoded}
use Rattle.saving.specs.Encoding.{encoded}
use Rattle.checkpoints.specs.Checkpoints.{slots, checkpoints_size, restore_code, restore}
use Rattle.decoding.specs.declared.Command.TheVariants as CommandOf
use Rattle.lines.specs.Lines.{line_of, write_line}
use Rattle.replies.specs.declared.Reply.TheVariants as ReplyOf
use Rattle.replies.specs.Replies.{is_last}
use Rattle.commands.specs.Commands.{start, accepted, rejected, next_command, perform, perform_checkpoints}
use Rattle.streams.specs.Stream.{input_limit, line_room, next, answers_from, answers, line_after, text_of, text}
use Rattle.commands.specs.declared.Session.{Session}
use Rattle.commands.specs.declared.Performed.{Performed}

-- a state that is open passes its checks, and so does every state that a name holds
pub record Passes (t : State) : Type 0 where
  pub checked : check t ≡ 0
  pub typed : Typed t

pub record Sound (x : Session) : Type 0 where
  pub passes : x.active ≡ true → Passes x.state

pub record Holding (checkpoints : List ℕ) : Type 0 where
  pub passes : (slot : ℕ) → restore_code slot checkpoints ≡ 0 → Passes (restore slot checkpoints).state

-- those of every session do: only `start` and `perform` make one. Of the checkpoints it is so whatever bytes are lent
pub record Sessions : Type 0 where
  pub first : Sound start
  pub lent : (checkpoints : List ℕ) → AreBytes checkpoints → Holding checkpoints
  pub later : (s : List ℕ) (x : Session) (checkpoints : List ℕ) (room : ℕ) → AreBytes s → Holding checkpoints → Sound x → Sound (perform s x checkpoints room).session
  pub kept : (s : List ℕ) (x : Session) (checkpoints : List ℕ) → Holding checkpoints → Sound x → Holding (perform_checkpoints s x checkpoints)

-- the last answer, and no other, is X or N: no bytes make the stream run on or stop short
abbrev pub EndsOnce : List Performed → Type 0
EndsOnce [] = ⊥
EndsOnce (p ∷ []) = is_last p.reply ≡ true
EndsOnce (p ∷ q ∷ ps) = (is_last p.reply ≡ false) × EndsOnce (q ∷ ps)

-- the answers and the text come command by command, each has its line in a buffer of the program's room, and the stream ends once
pub record Answers : Type 0 where
  pub each : (s : List ℕ) (x : Session) (d : List ℕ)
      → answers_from s x d ≡ next s x d ∷ cond (is_last (next s x d).reply) [] (answers_from s (next s x d).session (perform_checkpoints s x d))
  pub lines : (s : List ℕ) (x : Session) (d : List ℕ)
      → text_of (answers_from s x d) ≡ line_after (next s x d) ++ cond (is_last (next s x d).reply) [] (text_of (answers_from s (next s x d).session (perform_checkpoints s x d)))
  pub written : (s : List ℕ) (x : Session) (d : List ℕ) (room : ℕ) → line_room ≤ room
      → write_line (next s x d).reply (encoded (next s x d).session.state) room ≡ Ok (length (line_after (next s x d)))
  pub ends : (s : List ℕ) → EndsOnce (answers s)

-- a new group replaces the state only when all of it is accepted, and empties no name
pub record Replaced (s : List ℕ) (x : Session) (d : List ℕ) (room : ℕ) : Type 0 where
  pub whole : open_code (drop x.at s) ≡ 0 → (perform s x d room).session.state ≡ decoded (drop x.at s)
  pub otherwise : (open_code (drop x.at s) ≡ 0 → ⊥) → (perform s x d room).session ≡ x
  pub names : perform_checkpoints s x d ≡ d

pub record Openings : Type 0 where
  pub replaced : (s : List ℕ) (x : Session) (d : List ℕ) (room : ℕ) → (next_command s x).command ≡ CommandOf.Open → Replaced s x d room

-- X: 0 for refusal 1, and the input's length where refusal 4 finds no command begun
pub record Offsets : Type 0 where
  pub long : (s : List ℕ) → input_limit < length s → answers s ≡ rejected (rejection_of input_too_long) 0 start ∷ []
  pub none : (s : List ℕ) (x : Session) (d : List ℕ) (room : ℕ) → (next_command s x).command ≡ CommandOf.Open
      → open_code (drop x.at s) ≡ truncated → length (drop x.at s) ≤ open_offset (drop x.at s)
      → (perform s x d room).reply ≡ ReplyOf.Rejected (rejection_of truncated) (length s)

-- document 02, W-211: where no state is open 14 is refusal 3; else its answer has no line, and the state that stands is the switched one
pub record Switches : Type 0 where
  pub unopened : (s : List ℕ) (x : Session) (d : List ℕ) (room : ℕ) → x.at < length s → get_or s x.at 0 ≡ 0x14 → x.active ≡ false
      → perform s x d room ≡ rejected (rejection_of out_of_place) x.at x
  pub opened : (s : List ℕ) (x : Session) (d : List ℕ) (room : ℕ) → x.at < length s → get_or s x.at 0 ≡ 0x14 → x.active ≡ true → Sound x
      → perform s x d room ≡ accepted ReplyOf.Silent (x.at + 1) (switched x.state)
  pub line : (saved : List ℕ) → line_of ReplyOf.Silent saved ≡ []

-- document 02, W-205: 31 is refusal 3 for a model with multiplicative errors, 32 for one with additive errors, whether or not their operands are there
pub record ErrorKinds : Type 0 where
  pub additive : (s : List ℕ) (x : Session) (d : List ℕ) (room : ℕ) → x.at < length s → get_or s x.at 0 ≡ 0x31 → has_relative_errors x.state.model ≡ true
      → perform s x d room ≡ rejected (rejection_of out_of_place) x.at x
  pub relative : (s : List ℕ) (x : Session) (d : List ℕ) (room : ℕ) → x.at < length s → get_or s x.at 0 ≡ 0x32 → has_relative_errors x.state.model ≡ false
      → perform s x d room ≡ rejected (rejection_of out_of_place) x.at x

-- document 02, W-209: where no state is open 50 and 51 are refusal 3, whatever byte follows and whatever a name holds; else 21 for a byte above 3 and for a name that holds nothing
-- when 51 comes. Neither has a line. 50 leaves the state, and its name then holds it; 51 brings back what its name holds, and every name holds what it held
pub record Checkpoints (s : List ℕ) (x : Session) (d : List ℕ) (room slot : ℕ) : Type 0 where
  pub unopened : (first : ℕ) → (first ≡ 0x50) ⊎ (first ≡ 0x51) → get_or s x.at 0 ≡ first → x.active ≡ false → perform s x d room ≡ rejected (rejection_of out_of_place) x.at x
  pub stores : get_or s x.at 0 ≡ 0x50 → x.active ≡ true → Sound x → slot < slots → checkpoints_size ≤ length d
      → (perform s x d room ≡ accepted ReplyOf.Silent (x.at + 2) x.state) × (restore slot (perform_checkpoints s x d) ≡ record { outcome = Ok tt; state = x.state })
  pub restores : get_or s x.at 0 ≡ 0x51 → x.active ≡ true → restore_code slot d ≡ 0
      → (perform s x d room ≡ accepted ReplyOf.Silent (x.at + 2) (restore slot d).state) × (perform_checkpoints s x d ≡ d)
  pub above : (first : ℕ) → (first ≡ 0x50) ⊎ (first ≡ 0x51) → get_or s x.at 0 ≡ first → x.active ≡ true → Sound x → slots ≤ slot → perform s x d room ≡ rejected (rejection_of no_checkpoint) x.at x
  pub empty : get_or s x.at 0 ≡ 0x51 → x.active ≡ true → (restore_code slot d ≡ 0 → ⊥) → perform s x d room ≡ rejected (rejection_of no_checkpoint) x.at x

abbrev pub CheckpointLaws : Type 0
CheckpointLaws = (s : List ℕ) (x : Session) (d : List ℕ) (room slot : ℕ) → x.at + 2 ≤ length s → get_or s (x.at + 1) 0 ≡ slot → Checkpoints s x d room slot

-- the listing: model 0, A = 32768, all else 0, then reading 10, forecast 2, variance 2 with σ² 4
abbrev pub listing : List ℕ
listing =
    0x10 ∷ 0 ∷ 0 ∷ 0 ∷ 0x80 ∷ 0 ∷ 0 ∷ 0 ∷ 0 ∷ 0 ∷ 0 ∷ 0 ∷ 0 ∷ 0 ∷ 0 ∷ 0 ∷ 0 ∷ 0 ∷ 0
    ∷ 0x11 ∷ 0 ∷ 0 ∷ 0 ∷ 0 ∷ 0 ∷ 0 ∷ 0 ∷ 0 ∷ 0 ∷ 0 ∷ 0 ∷ 0 ∷ 0 ∷ 0 ∷ 0 ∷ 0
    ∷ 0x13 ∷ 0 ∷ 0 ∷ 0 ∷ 0 ∷ 0 ∷ 0 ∷ 0 ∷ 0 ∷ 0
    ∷ 0x20 ∷ 10 ∷ 0 ∷ 0 ∷ 0
    ∷ 0x30 ∷ 2 ∷ 0
    ∷ 0x31 ∷ 2 ∷ 0 ∷ 4 ∷ 0 ∷ 0 ∷ 0
    ∷ []

-- O 0 0, E 655360, F 2 327680, V 2 0 21474836480, N 1
abbrev pub listing_text : List ℕ
listing_text =
    79 ∷ 32 ∷ 48 ∷ 32 ∷ 48 ∷ 10
    ∷ 69 ∷ 32 ∷ 54 ∷ 53 ∷ 53 ∷ 51 ∷ 54 ∷ 48 ∷ 10
    ∷ 70 ∷ 32 ∷ 50 ∷ 32 ∷ 51 ∷ 50 ∷ 55 ∷ 54 ∷ 56 ∷ 48 ∷ 10
    ∷ 86 ∷ 32 ∷ 50 ∷ 32 ∷ 48 ∷ 32 ∷ 50 ∷ 49 ∷ 52 ∷ 55 ∷ 52 ∷ 56 ∷ 51 ∷ 54 ∷ 52 ∷ 56 ∷ 48 ∷ 10
    ∷ 78 ∷ 32 ∷ 49 ∷ 10
    ∷ []

abbrev pub Listing : Type 0
Listing = text listing ≡ listing_text
