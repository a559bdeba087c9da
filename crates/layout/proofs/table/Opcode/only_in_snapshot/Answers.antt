use mathlib.Core.Logic.{◌⊎◌, inl, inr}
use mathlib.Core.Bool.{true}
use mathlib.Core.Path.{◌≡◌, sym}
use Rattle.layout.specs.CommandTable.{byte_of, only_in_snapshot}
use Rattle.layout.specs.declared.table.Opcode.{Opcode}
use Rattle.layout.specs.declared.table.Opcode.TheVariants as OpcodeOf
use Rattle.layout.proofs.Opcodes.{by-itself}
use Rattle.layout.proofs.table.Opcode.only_in_snapshot.Goals as goal

of-snapshot : (c : Opcode) → (c ≡ OpcodeOf.Level) ⊎ ((c ≡ OpcodeOf.Season) ⊎ ((c ≡ OpcodeOf.Position) ⊎ (c ≡ OpcodeOf.Score))) → true ≡ only_in_snapshot (byte_of c)
unfolding only_in_snapshot
of-snapshot c (inl e) = rw e
of-snapshot c (inr (inl e)) = rw e
of-snapshot c (inr (inr (inl e))) = rw e
of-snapshot c (inr (inr (inr e))) = rw e

pub returns-in-Level : goal.returns-in-Level
returns-in-Level c = of-snapshot _ c.in-Level.is

pub returns-in_default : goal.returns-in_default
returns-in_default c = let n = c.in_default in sym (by-itself _ n.not-Level n.not-Season n.not-Position n.not-Score)
