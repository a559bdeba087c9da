-- Document 01, "Commands" and "Refusals, in checking order": the command at an offset of a stream.
use Rattle.std.specs.Prelude.{ℕ, ◌+◌, ◌-◌, Bool, cond, not, ◌&&◌, ◌||◌, List, eqb, leb, length, get_or}
use Rattle.std.specs.Int.{w32}
use Rattle.std.proofs.Common.{to_z}
use Rattle.state.specs.Rejections.{unless, ◌then◌, unknown_command, out_of_place, truncated, rejection_of}
use Rattle.models.specs.Models.{errors_are}
use Rattle.layout.specs.Bytes.{unsigned_at}
use Rattle.layout.specs.CommandTable.{command_size, is_command, only_in_snapshot, opens}
use Rattle.decoding.specs.declared.Command.{Command}
use Rattle.decoding.specs.declared.Command.TheVariants as CommandOf
use Rattle.decoding.specs.declared.Decoded.{Decoded}

-- 31 is for a model with additive errors, 32 for one with multiplicative errors (document 02, W-205); all others are for both
abbrev pub errors_fit : ℕ → ℕ → Bool
errors_fit b model = not (eqb b 0x31 || eqb b 0x32) || errors_are (eqb b 0x32) model

-- a command's place outside a group, where a state is open or not, with its model byte
unfoldable pub allowed_here : ℕ → Bool → ℕ → Bool
allowed_here b active model = (not (only_in_snapshot b) && (active || opens b)) && errors_fit b model

-- what rejects the command that begins there, before its operands are looked at, or 0
unfoldable pub command_code : List ℕ → ℕ → Bool → ℕ → ℕ
command_code s at active model =
    let b = get_or s at 0 in
    unless (is_command b) unknown_command
    then unless (allowed_here b active model) out_of_place
    then unless (leb (command_size b) (length s - at)) truncated

-- the command of a first byte, with its operands
unfoldable pub operands : List ℕ → ℕ → Command
operands s at =
    let b = get_or s at 0 in
    cond (opens b) CommandOf.Open
    (cond (eqb b 0x20) (CommandOf.Reading (to_z w32 (unsigned_at s (at + 1) 4)))
    (cond (eqb b 0x21) CommandOf.Missing
    (cond (eqb b 0x30) (CommandOf.Forecast (unsigned_at s (at + 1) 2))
    (cond (eqb b 0x31) (CommandOf.Variance (unsigned_at s (at + 1) 2) (unsigned_at s (at + 3) 4))
    (cond (eqb b 0x32) (CommandOf.RelativeVariance (unsigned_at s (at + 1) 2) (unsigned_at s (at + 3) 8))
    (cond (eqb b 0x14) CommandOf.SwitchToEven
    (cond (eqb b 0x50) (CommandOf.Store (get_or s (at + 1) 0))
    (cond (eqb b 0x51) (CommandOf.Restore (get_or s (at + 1) 0))
    CommandOf.Save))))))))

abbrev pub decoded : Command → ℕ → Decoded
decoded command next = record { command = command; next = next }

-- the call: the command and the offset after it; the end of the stream, and a rejected command, have none after them
unfoldable pub decode : List ℕ → ℕ → Bool → ℕ → Decoded
decode s at active model =
    cond (leb (length s) at) (decoded CommandOf.End at)
    (cond (eqb (command_code s at active model) 0)
    (decoded (operands s at) (at + command_size (get_or s at 0)))
    (decoded (CommandOf.Rejected (rejection_of (command_code s at active model))) at))
