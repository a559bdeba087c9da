-- Document 01, "Commands": what a command of a stream answers, and what stands after it.
use Rattle.std.specs.Prelude.{ℕ, ◌+◌, Bool, true, false, cond, List, ℤ, length, drop}
use Rattle.state.specs.Rejections.{by_result}
use Rattle.state.specs.States.{no_state}
use Rattle.state.specs.declared.State.{State}
use Rattle.snapshot.specs.Snapshots.{open_offset}
use Rattle.saving.specs.Saving.{saved_bytes}
use Rattle.checkpoints.specs.Checkpoints.{stored_bytes}
use Rattle.actions.specs.Actions as ActionOf
use Rattle.actions.specs.declared.Action.{Action}
use Rattle.decoding.specs.Decoding.{decode}
use Rattle.decoding.specs.declared.Decoded.{Decoded}
use Rattle.decoding.specs.declared.Command.{Command}
use Rattle.decoding.specs.declared.Command.TheVariants as CommandOf
use Rattle.replies.specs.declared.Reply.{Reply}
use Rattle.replies.specs.declared.Reply.TheVariants as ReplyOf
use Rattle.commands.specs.declared.Session.{Session}
use Rattle.commands.specs.declared.Performed.{Performed}
use Rattle.state.specs.declared.Rejection.{Rejection}

-- before the first command: no state is open
unfoldable pub start : Session
start = record { at = 0; active = false; state = no_state }

-- a rejected command leaves everything as it was, and so does the end of the stream
abbrev pub stopped : Reply → Session → Performed
stopped r x = record { reply = r; session = x }

abbrev pub rejected : Rejection → ℕ → Session → Performed
rejected r offset x = stopped (ReplyOf.Rejected r offset) x

-- an accepted command: its answer, the offset after it, and the state that then stands
abbrev pub accepted : Reply → ℕ → State → Performed
accepted r next s = record { reply = r; session = record { at = next; active = true; state = s } }

-- what stands after an action on a session's state: the session's offset and whether a state was open, the offset after the command, and that of what is rejected
abbrev pub settled : ℕ → Bool → ℕ → ℕ → Action → Performed
settled at active next offset a =
    by_result a.answer (λ (r : Reply). accepted r next a.state) (λ (r : Rejection). rejected r offset (record { at = at; active = active; state = a.state }))

-- what a stream hands on of an accepted command, with the offset after it, and of a rejected one
abbrev pub onward : ℕ → Reply → State → Performed
onward next r t = accepted r next t

abbrev pub refused : Session → Rejection → Performed
refused x r = rejected r x.at x

-- after the last command: the count, 0 if no state is open
unfoldable pub finish : Session → Performed
finish x = stopped (ReplyOf.Ended (cond x.active x.state.count 0)) x

-- where the rest of the stream begins: with what follows an accepted group, or with the rejected command of one
abbrev pub rest_offset : List ℕ → ℕ → ℕ
rest_offset s at = at + open_offset (drop at s)

-- 10 or 18: a new group replaces the state only when all of it is accepted
unfoldable pub open_snapshot : List ℕ → Session → Performed
open_snapshot s x =
    ActionOf.open_snapshot (drop x.at s) (onward (rest_offset s x.at)) (λ (r : Rejection). rejected r (rest_offset s x.at) x)

-- 20
unfoldable pub take_reading : Session → ℕ → ℤ → Performed
take_reading x next y = ActionOf.take_reading x.state y (onward next) (refused x)

-- 21
unfoldable pub take_missing : Session → ℕ → Performed
take_missing x next = ActionOf.take_missing x.state (onward next) (refused x)

-- 14 (document 02, W-211): the answer has no line
unfoldable pub switch_state : Session → ℕ → Performed
switch_state x next = ActionOf.switch_state x.state (onward next) (refused x)

-- 30
unfoldable pub give_forecast : Session → ℕ → ℕ → Performed
give_forecast x next h = ActionOf.give_forecast x.state h (onward next) (refused x)

-- 31
unfoldable pub give_variance : Session → ℕ → ℕ → ℕ → Performed
give_variance x next h sigma2 = ActionOf.give_variance x.state h sigma2 (onward next) (refused x)

-- 32 (document 02, W-205): the answer's 64 bits; there is room for every θ
unfoldable pub give_relative_variance : Session → ℕ → ℕ → ℕ → Performed
give_relative_variance x next h sigma2 = ActionOf.give_relative_variance x.state h sigma2 (onward next) (refused x)

-- 40: saving writes the group of the state into a buffer of so much room
unfoldable pub save_state : Session → ℕ → ℕ → Performed
save_state x next room = ActionOf.save_state x.state room (onward next) (refused x)

-- 50 (document 02, W-209): the state is kept under a name, in checkpoints of so much room, and stands as it stood
unfoldable pub store_state : Session → ℕ → ℕ → ℕ → Performed
store_state x next slot room = ActionOf.store_state x.state slot room (onward next) (refused x)

-- 51: what a name holds in the checkpoints stands again
unfoldable pub restore_state : Session → ℕ → ℕ → List ℕ → Performed
restore_state x next slot checkpoints = ActionOf.restore_state slot checkpoints (onward next) (refused x)

-- each command, with the offset after it, the checkpoints, and the room of the buffer that a save writes into
abbrev pub act : List ℕ → Session → List ℕ → ℕ → ℕ → Command → Performed
act s x checkpoints room next CommandOf.End = finish x
act s x checkpoints room next CommandOf.Open = open_snapshot s x
act s x checkpoints room next (CommandOf.Reading y) = take_reading x next y
act s x checkpoints room next CommandOf.Missing = take_missing x next
act s x checkpoints room next (CommandOf.Forecast h) = give_forecast x next h
act s x checkpoints room next (CommandOf.Variance h sigma2) = give_variance x next h sigma2
act s x checkpoints room next CommandOf.Save = save_state x next room
act s x checkpoints room next (CommandOf.Rejected r) = rejected r x.at x
act s x checkpoints room next CommandOf.SwitchToEven = switch_state x next
act s x checkpoints room next (CommandOf.RelativeVariance h sigma2) = give_relative_variance x next h sigma2
act s x checkpoints room next (CommandOf.Store slot) = store_state x next slot (length checkpoints)
act s x checkpoints room next (CommandOf.Restore slot) = restore_state x next slot checkpoints

-- what the buffer then holds
abbrev pub buffered : Session → List ℕ → Command → List ℕ
buffered x buffer CommandOf.End = buffer
buffered x buffer CommandOf.Open = buffer
buffered x buffer (CommandOf.Reading y) = buffer
buffered x buffer CommandOf.Missing = buffer
buffered x buffer (CommandOf.Forecast h) = buffer
buffered x buffer (CommandOf.Variance h sigma2) = buffer
buffered x buffer CommandOf.Save = saved_bytes x.state buffer
buffered x buffer (CommandOf.Rejected r) = buffer
buffered x buffer CommandOf.SwitchToEven = buffer
buffered x buffer (CommandOf.RelativeVariance h sigma2) = buffer
buffered x buffer (CommandOf.Store slot) = buffer
buffered x buffer (CommandOf.Restore slot) = buffer

-- what the checkpoints then hold: only 50 writes there, so that a new group empties no name, and one that was brought back still holds its state
abbrev pub checkpointed : Session → List ℕ → Command → List ℕ
checkpointed x checkpoints CommandOf.End = checkpoints
checkpointed x checkpoints CommandOf.Open = checkpoints
checkpointed x checkpoints (CommandOf.Reading y) = checkpoints
checkpointed x checkpoints CommandOf.Missing = checkpoints
checkpointed x checkpoints (CommandOf.Forecast h) = checkpoints
checkpointed x checkpoints (CommandOf.Variance h sigma2) = checkpoints
checkpointed x checkpoints CommandOf.Save = checkpoints
checkpointed x checkpoints (CommandOf.Rejected r) = checkpoints
checkpointed x checkpoints CommandOf.SwitchToEven = checkpoints
checkpointed x checkpoints (CommandOf.RelativeVariance h sigma2) = checkpoints
checkpointed x checkpoints (CommandOf.Store slot) = stored_bytes x.state slot checkpoints
checkpointed x checkpoints (CommandOf.Restore slot) = checkpoints

-- the command at the session's offset
abbrev pub next_command : List ℕ → Session → Decoded
next_command s x = decode s x.at x.active x.state.model

-- the call: that command, finished before the next is looked at
unfoldable pub perform : List ℕ → Session → List ℕ → ℕ → Performed
perform s x checkpoints room =
    let d = next_command s x in
    act s x checkpoints room d.next d.command

unfoldable pub perform_bytes : List ℕ → Session → List ℕ → List ℕ
perform_bytes s x buffer = buffered x buffer (next_command s x).command

unfoldable pub perform_checkpoints : List ℕ → Session → List ℕ → List ℕ
perform_checkpoints s x checkpoints = checkpointed x checkpoints (next_command s x).command
