-- Document 01, "The program's lines": a whole stream, its answers and its text.
use Rattle.std.specs.Prelude.{ℕ, zero, suc, ◌+◌, ◌*◌, ◌-◌, cond, List, [], ◌∷◌, ◌++◌, leb, length, Ok, Err}
use Rattle.state.specs.Rejections.{unless, outcome, input_too_long, Outcome}
use Rattle.layout.specs.Layout.{size_of}
use Rattle.saving.specs.Encoding.{encoded}
use Rattle.checkpoints.specs.Checkpoints.{no_checkpoints}
use Rattle.lines.specs.Lines.{line_of, write_line, line_bytes}
use Rattle.replies.specs.declared.Reply.{Reply}
use Rattle.replies.specs.declared.Reply.TheVariants as ReplyOf
use Rattle.replies.specs.Replies.{is_last}
use Rattle.commands.specs.Commands.{start, rejected, perform, perform_checkpoints}
use Rattle.commands.specs.declared.Session.{Session}
use Rattle.commands.specs.declared.Performed.{Performed}
use Rattle.streams.specs.declared.Written.{Written}

-- the longest input
abbrev pub input_limit : ℕ
input_limit = 65536

-- the longest group, with a season of 48: the room of the buffer that the program saves into
abbrev pub snapshot_room : ℕ
snapshot_room = size_of 48

-- the longest line, that of such a group: its letter, a space, two digits a byte, the line's end
abbrev pub line_room : ℕ
line_room = 3 + 2 * snapshot_room

-- the call: refusal 1, before the first command is looked at
unfoldable pub admit : List ℕ → Outcome
admit s = outcome (unless (leb (length s) input_limit) input_too_long)

-- one command of the program's stream, with the checkpoints that the commands before it left
abbrev pub next : List ℕ → Session → List ℕ → Performed
next s x checkpoints = perform s x checkpoints snapshot_room

-- the answers of at most n commands, one after the other
unfoldable pub answers_in : ℕ → List ℕ → Session → List ℕ → List Performed
answers_in zero s x checkpoints = []
answers_in (suc n) s x checkpoints =
    let p = next s x checkpoints in
    p ∷ cond (is_last p.reply) [] (answers_in n s p.session (perform_checkpoints s x checkpoints))

-- the answers from a session on: each command has a byte or more, so that they are no more than the bytes left and the last one
unfoldable pub answers_from : List ℕ → Session → List ℕ → List Performed
answers_from s x checkpoints = answers_in (suc (length s - x.at)) s x checkpoints

-- the whole stream's answers; no name holds anything at first
abbrev pub answers_of : Outcome → List ℕ → List Performed
answers_of (Ok u) s = answers_from s start no_checkpoints
answers_of (Err r) s = rejected r 0 start ∷ []

unfoldable pub answers : List ℕ → List Performed
answers s = answers_of (admit s) s

-- the last of some answers after a reply
unfoldable pub final_reply : Reply → List Performed → Reply
final_reply r [] = r
final_reply r (p ∷ ps) = final_reply p.reply ps

-- the stream's last answer; there is always one
unfoldable pub last_reply : List Performed → Reply
last_reply ps = final_reply (ReplyOf.Ended 0) ps

-- ---- the text

-- the line of an answer; what is saved is the group of the state that stands
unfoldable pub line_after : Performed → List ℕ
line_after p = line_of p.reply (encoded p.session.state)

unfoldable pub text_of : List Performed → List ℕ
text_of [] = []
text_of (p ∷ ps) = line_after p ++ text_of ps

-- what the program prints: the line of each answer in order
unfoldable pub text : List ℕ → List ℕ
text s = text_of (answers s)

-- the call: one command and its line, and what the line's buffer then holds
unfoldable pub write_next : List ℕ → Session → List ℕ → ℕ → Written
write_next s x checkpoints room =
    let p = next s x checkpoints in
    record { performed = p; line = write_line p.reply (encoded p.session.state) room }

unfoldable pub next_bytes : List ℕ → Session → List ℕ → List ℕ → List ℕ
next_bytes s x checkpoints buffer =
    let p = next s x checkpoints in
    line_bytes p.reply (encoded p.session.state) buffer
