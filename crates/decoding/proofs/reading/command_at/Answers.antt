-- `decoding::reading::command_at` meets its contract.
use mathlib.Core.Path.{◌≡◌, sym, ◌∙◌}
use mathlib.Core.Bool.{true≢false, false}
use borrow.Author.Tests.{ne_eqb}
use lib.Dec.{eqb}
use Prim.Native.Nat.{ℕ}
use Rattle.decoding.specs.Decoding.{operands}
use Rattle.layout.specs.CommandTable.{byte_of, is_command, opens}
use Rattle.layout.specs.declared.table.Opcode.{Opcode}
use Rattle.layout.specs.declared.table.Opcode.TheVariants as OpcodeOf
use Rattle.layout.proofs.Opcodes.{begins}
use Rattle.decoding.proofs.reading.command_at.Goals as goal

-- a byte that begins no command is no command's
none-of : (b : ℕ) (c : Opcode) → is_command b ≡ false → eqb b (byte_of c) ≡ false
none-of b c h = ne_eqb b (byte_of c) (λ e. true≢false (sym (begins c) ∙ (rw e at h)))

pub returns-in-Err : goal.returns-in-Err
unfolding operands opens
returns-in-Err c =
    let h = c.in-Err.ensures.0 in
    rw (none-of _ OpcodeOf.Open h, none-of _ OpcodeOf.OpenOutside h, none-of _ OpcodeOf.Reading h, none-of _ OpcodeOf.Missing h, none-of _ OpcodeOf.Forecast h, none-of _ OpcodeOf.Variance h, none-of _ OpcodeOf.RelativeVariance h, none-of _ OpcodeOf.SwitchToEven h, none-of _ OpcodeOf.Store h, none-of _ OpcodeOf.Restore h)
