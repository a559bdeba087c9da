-- Commands 14, 31 and 32 in a stream: what their first byte decides, by the table.
use Prim.Native.Nat.{ℕ, ◌+◌, ◌-◌, ◌≤◌, ◌<◌}
use mathlib.Core.Path.{◌≡◌, refl}
use mathlib.Core.Bool.{true, false, not, ◌&&◌, ◌||◌}
use mathlib.Core.List.{List, []}
use native.Mathlib.Omega.{arith}
use borrow.Author.Tests.{lt-leb, le-leb}
use lib.ListN.{length, get_or}
use Rattle.integers.proofs.Tests.{and-false}
use Rattle.models.specs.Models.{has_relative_errors}
use Rattle.state.specs.Rejections.{out_of_place, rejection_of}
use Rattle.state.specs.Switching.{switched}
use Rattle.state.proofs.Switches.{switch-accepted}
use Rattle.layout.specs.CommandTable.{command_size, is_command, only_in_snapshot, opens}
use Rattle.decoding.specs.Decoding.{allowed_here, command_code, operands, decode}
use Rattle.decoding.proofs.DecodingLaws.{decode-stray}
use Rattle.lines.specs.Lines.{fields_bytes, line_of}
use Rattle.replies.specs.declared.Reply.TheVariants as ReplyOf
use Rattle.commands.specs.Commands.{accepted, rejected, switch_state, perform}
use Rattle.streams.specs.Promises.{Sound, Switches, ErrorKinds}
use Rattle.commands.specs.declared.Session.{Session}

module _ (s : List ℕ) (x : Session) (cs : List ℕ) (room : ℕ) (h : x.at < length s) (b : get_or s x.at 0 ≡ 0x14) where
  closed : x.active ≡ false → perform s x cs room ≡ rejected (rejection_of out_of_place) x.at x
  unfolding perform decode command_code allowed_here is_command command_size only_in_snapshot opens
  closed e = rw (lt-leb (length s) x.at h, b, e)

  open-state : x.active ≡ true → Sound x → perform s x cs room ≡ accepted ReplyOf.Silent (x.at + 1) (switched x.state)
  unfolding perform decode command_code allowed_here is_command command_size only_in_snapshot opens operands switch_state
  open-state e p =
      let room-left : 1 ≤ length s - x.at = omega arith in
      rw (lt-leb (length s) x.at h, b, e, le-leb 1 (length s - x.at) room-left, switch-accepted x.state (p.passes e).checked)

no_line : (saved : List ℕ) → line_of ReplyOf.Silent saved ≡ []
unfolding line_of fields_bytes
no_line saved = refl

pub switches : Switches
switches =
    record { unopened = λ s x cs room h b e. closed s x cs room h b e; opened = λ s x cs room h b e p. open-state s x cs room h b e p; line = no_line }

-- ---- 31 and 32 and the kind of the errors
one-command : is_command 0x31 ≡ true
unfolding is_command command_size
one-command = refl

two-command : is_command 0x32 ≡ true
unfolding is_command command_size
two-command = refl

module _ (s : List ℕ) (x : Session) (cs : List ℕ) (room : ℕ) (h : x.at < length s) where
  abbrev b : ℕ
  b = get_or s x.at 0

  stray : is_command b ≡ true → allowed_here b x.active x.state.model ≡ false → perform s x cs room ≡ rejected (rejection_of out_of_place) x.at x
  unfolding perform
  stray c e = rw (decode-stray s x.at x.active x.state.model h c e)

  additive : b ≡ 0x31 → has_relative_errors x.state.model ≡ true → perform s x cs room ≡ rejected (rejection_of out_of_place) x.at x
  unfolding allowed_here
  additive q e = stray (rw q one-command) (rw (q, e) (and-false (not (only_in_snapshot 0x31) && (x.active || opens 0x31))))

  relative : b ≡ 0x32 → has_relative_errors x.state.model ≡ false → perform s x cs room ≡ rejected (rejection_of out_of_place) x.at x
  unfolding allowed_here
  relative q e = stray (rw q two-command) (rw (q, e) (and-false (not (only_in_snapshot 0x32) && (x.active || opens 0x32))))

pub error-kinds : ErrorKinds
error-kinds = record { additive = additive; relative = relative }
