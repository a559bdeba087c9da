-- `decoding::reading::command_of` meets its contract: each arm is a command's.
use borrow.Author.Rules.{rules}
use mathlib.Core.List.{List}
use mathlib.Core.Logic.{◌⊎◌, inl, inr}
use Prim.Native.Nat.{ℕ}
use lib.ListN.{get_or}
use Rattle.decoding.specs.declared.Command.TheVariants as CommandOf
use Rattle.decoding.specs.Decoding.{operands}
use Rattle.layout.specs.CommandTable.{byte_of, opens}
use Rattle.layout.specs.declared.table.Opcode.{Opcode}
use Rattle.layout.specs.declared.table.Opcode.TheVariants as OpcodeOf
use mir.ValLaws.{to_z-of_z}
use mir.Syntax.{w32}
use mathlib.Core.Path.{◌≡◌, ap, ◌∙◌}
use Rattle.decoding.proofs.reading.command_of.Goals as goal

opening : (s : List ℕ) (at : ℕ) (c : Opcode) → byte_of c ≡ get_or s at 0 → (c ≡ OpcodeOf.Open) ⊎ (c ≡ OpcodeOf.OpenOutside) → CommandOf.Open ≡ operands s at
unfolding operands opens
opening s at c b (inl e) = rw (← b, e)
opening s at c b (inr e) = rw (← b, e)

saving : (s : List ℕ) (at : ℕ) (c : Opcode) → byte_of c ≡ get_or s at 0 → (c ≡ OpcodeOf.Save) ⊎ ((c ≡ OpcodeOf.Level) ⊎ ((c ≡ OpcodeOf.Season) ⊎ ((c ≡ OpcodeOf.Position) ⊎ (c ≡ OpcodeOf.Score)))) → CommandOf.Save ≡ operands s at
unfolding operands opens
saving s at c b (inl e) = rw (← b, e)
saving s at c b (inr (inl e)) = rw (← b, e)
saving s at c b (inr (inr (inl e))) = rw (← b, e)
saving s at c b (inr (inr (inr (inl e)))) = rw (← b, e)
saving s at c b (inr (inr (inr (inr e)))) = rw (← b, e)

pub returns-in-Open : goal.returns-in-Open
returns-in-Open c = opening c.args.s.now c.args.at _ c.requires.1 c.in-Open.is

pub returns-in-Reading : goal.returns-in-Reading
unfolding operands opens
returns-in-Reading c =
    rw (← c.requires.1, c.in-Reading.is) (ap CommandOf.Reading (to_z-of_z w32 c.read_i32.result (search rules) ∙ c.read_i32.ensures))

pub returns-in-Missing : goal.returns-in-Missing
unfolding operands opens
returns-in-Missing c = rw (← c.requires.1, c.in-Missing.is)

pub returns-in-Forecast : goal.returns-in-Forecast
unfolding operands opens
returns-in-Forecast c = rw (← c.requires.1, c.in-Forecast.is) (ap CommandOf.Forecast c.read_u16.ensures)

pub returns-in-Variance : goal.returns-in-Variance
unfolding operands opens
returns-in-Variance c =
    let h = c.read_u16-in-Variance.ensures in
    let k = c.read_u32.ensures in
    rw (← c.requires.1, c.in-Variance.is) (rw (← h, ← k))

pub returns-in-RelativeVariance : goal.returns-in-RelativeVariance
unfolding operands opens
returns-in-RelativeVariance c =
    let h = c.read_u16-in-RelativeVariance.ensures in
    let k = c.read_u64.ensures in
    rw (← c.requires.1, c.in-RelativeVariance.is) (rw (← h, ← k))

pub returns-in-SwitchToEven : goal.returns-in-SwitchToEven
unfolding operands opens
returns-in-SwitchToEven c = rw (← c.requires.1, c.in-SwitchToEven.is)

pub returns-in-Store : goal.returns-in-Store
unfolding operands opens
returns-in-Store c = rw (← c.requires.1, c.in-Store.is) (ap CommandOf.Store c.byte_at.ensures)

pub returns-in-Restore : goal.returns-in-Restore
unfolding operands opens
returns-in-Restore c = rw (← c.requires.1, c.in-Restore.is) (ap CommandOf.Restore c.byte_at-in-Restore.ensures)

pub returns-in-Save : goal.returns-in-Save
returns-in-Save c = saving c.args.s.now c.args.at _ c.requires.1 c.in-Save.is
