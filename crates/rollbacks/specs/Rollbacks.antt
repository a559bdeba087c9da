-- Document 02, W-209: after 51, with no other 50 since its name was kept, a stream is answered as if all between had never come, X offsets and refusal 1 aside.
use Rattle.std.specs.Prelude.{ℕ, ◌+◌, ◌-◌, ◌≡◌, Bool, true, false, not, List, [], ◌∷◌, ◌++◌, take, drop}
use Rattle.layout.specs.Bytes.{AreBytes}
use Rattle.checkpoints.specs.Checkpoints.{no_checkpoints}
use Rattle.decoding.specs.declared.Command.{Command}
use Rattle.decoding.specs.declared.Command.TheVariants as CommandOf
use Rattle.replies.specs.declared.Reply.{Reply}
use Rattle.replies.specs.declared.Reply.TheVariants as ReplyOf
use Rattle.replies.specs.Replies.{is_last}
use Rattle.commands.specs.Commands.{start, next_command, perform_checkpoints}
use Rattle.streams.specs.Stream.{next, answers_from, line_after}
use Rattle.commands.specs.declared.Session.{Session}
use Rattle.commands.specs.declared.Performed.{Performed}
use Rattle.state.specs.declared.Rejection.{Rejection}

-- ---- what stands between two commands of a stream: the session, and what the names hold
pub record Standing : Type 0 where
  pub session : Session
  pub checkpoints : List ℕ

-- before the first command
abbrev pub begins : Standing
begins = record { session = start; checkpoints = no_checkpoints }

-- the command that comes next, its answer, what stands after it, and all answers from there on
abbrev pub command_at : List ℕ → Standing → Command
command_at s x = (next_command s x.session).command

abbrev pub answer_at : List ℕ → Standing → Performed
answer_at s x = next s x.session x.checkpoints

abbrev pub after : List ℕ → Standing → Standing
after s x = record { session = (answer_at s x).session; checkpoints = perform_checkpoints s x.session x.checkpoints }

abbrev pub answers_at : List ℕ → Standing → List Performed
answers_at s x = answers_from s x.session x.checkpoints

-- ---- commands one after the other, each of them allowed and accepted: where they begin, their answers, and where they lead
pub data Leads (allowed : Command → Bool) (s : List ℕ) : Standing → List Performed → Standing → Type 0 where
  none : {x : Standing} → Leads allowed s x [] x
  more : {x y : Standing} {ps : List Performed} → allowed (command_at s x) ≡ true → is_last (answer_at s x).reply ≡ false → Leads allowed s (after s x) ps y → Leads allowed s x (answer_at s x ∷ ps) y

abbrev pub is_store : Command → Bool
is_store CommandOf.End = false
is_store CommandOf.Open = false
is_store (CommandOf.Reading y) = false
is_store CommandOf.Missing = false
is_store (CommandOf.Forecast h) = false
is_store (CommandOf.Variance h sigma2) = false
is_store CommandOf.Save = false
is_store (CommandOf.Rejected r) = false
is_store CommandOf.SwitchToEven = false
is_store (CommandOf.RelativeVariance h sigma2) = false
is_store (CommandOf.Store slot) = true
is_store (CommandOf.Restore slot) = false

abbrev pub any_command : Command → Bool
any_command c = true

abbrev pub not_store : Command → Bool
not_store c = not (is_store c)

-- a stream in which 50 is accepted, then come commands that are accepted and hold no other 50, then 51 of the same name
pub record KeptAndBack (s : List ℕ) (slot : ℕ) : Type 0 where
  pub earlier : List Performed
  pub here : Standing
  pub reached : Leads any_command s begins earlier here
  pub keeps : command_at s here ≡ CommandOf.Store slot
  pub accepted : is_last (answer_at s here).reply ≡ false
  pub between : List Performed
  pub there : Standing
  pub gone : Leads not_store s (after s here) between there
  pub back : command_at s there ≡ CommandOf.Restore slot

-- ---- the answers of a stream, n bytes later: the offset that X tells, and where the session stands
abbrev pub later_reply : ℕ → Reply → Reply
later_reply n (ReplyOf.Opened model m) = ReplyOf.Opened model m
later_reply n (ReplyOf.Residual e) = ReplyOf.Residual e
later_reply n ReplyOf.Missing = ReplyOf.Missing
later_reply n (ReplyOf.Forecast h v) = ReplyOf.Forecast h v
later_reply n (ReplyOf.Variance h high low) = ReplyOf.Variance h high low
later_reply n (ReplyOf.Saved k) = ReplyOf.Saved k
later_reply n (ReplyOf.Rejected r offset) = ReplyOf.Rejected r (n + offset)
later_reply n (ReplyOf.Ended count) = ReplyOf.Ended count
later_reply n ReplyOf.Silent = ReplyOf.Silent
later_reply n (ReplyOf.RelativeVariance h bits) = ReplyOf.RelativeVariance h bits

abbrev pub later_session : ℕ → Session → Session
later_session n x = record { at = n + x.at; active = x.active; state = x.state }

abbrev pub later : ℕ → Performed → Performed
later n p = record { reply = later_reply n p.reply; session = later_session n p.session }

unfoldable pub all_later : ℕ → List Performed → List Performed
all_later n [] = []
all_later n (p ∷ ps) = later n p ∷ all_later n ps

-- ---- the promise
module _ (s : List ℕ) (slot : ℕ) (r : KeptAndBack s slot) where
  -- after 50, and after 51
  abbrev pub kept : Standing
  kept = after s r.here

  abbrev pub restored : Standing
  restored = after s r.there

  -- the stream without what stood between, and without that 51; and how many bytes these are
  abbrev pub without : List ℕ
  without = take kept.session.at s ++ drop restored.session.at s

  abbrev pub gap : ℕ
  gap = restored.session.at - kept.session.at

  pub record Rollback : Type 0 where
    -- 51 is accepted and has no line; state and names are those that stood after 50
    pub silent : (answer_at s r.there).reply ≡ ReplyOf.Silent
    pub state : restored.session.state ≡ kept.session.state
    pub names : restored.checkpoints ≡ kept.checkpoints
    -- the answers of the stream, and of the one without: the same up to 50
    pub whole : answers_at s begins ≡ r.earlier ++ (answer_at s r.here ∷ (r.between ++ (answer_at s r.there ∷ answers_at s restored)))
    pub shorter : answers_at without begins ≡ r.earlier ++ (answer_at s r.here ∷ answers_at without kept)
    -- and what follows 51 is what follows 50 there, every answer and every state
    pub follows : answers_at s restored ≡ all_later gap (answers_at without kept)

pub record Rollbacks : Type 0 where
  pub back : (s : List ℕ) (slot : ℕ) → AreBytes s → (r : KeptAndBack s slot) → Rollback s slot r
  -- an answer that is told later has the same line, but for X
  pub lines : (n : ℕ) (p : Performed) → ((r : Rejection) (offset : ℕ) → p.reply ≡ ReplyOf.Rejected r offset → ⊥) → line_after (later n p) ≡ line_after p
