use mathlib.Core.Logic.{◌⊎◌, inl, inr}
use mathlib.Core.Path.{◌≡◌}
use Rattle.layout.specs.CommandTable.{byte_of, command_size, model_length}
use Rattle.layout.specs.declared.table.Opcode.{Opcode}
use Rattle.layout.specs.declared.table.Opcode.TheVariants as OpcodeOf
use Rattle.layout.proofs.table.Opcode.length.Goals as goal

of-model : (c : Opcode) → (c ≡ OpcodeOf.Open) ⊎ (c ≡ OpcodeOf.OpenOutside) → model_length ≡ command_size (byte_of c)
unfolding command_size
of-model c (inl e) = rw e
of-model c (inr e) = rw e

pub returns-in-Open : goal.returns-in-Open
returns-in-Open c = of-model _ c.in-Open.is

of-none : (c : Opcode) → (c ≡ OpcodeOf.SwitchToEven) ⊎ ((c ≡ OpcodeOf.Missing) ⊎ (c ≡ OpcodeOf.Save)) → 1 ≡ command_size (byte_of c)
unfolding command_size
of-none c (inl e) = rw e
of-none c (inr (inl e)) = rw e
of-none c (inr (inr e)) = rw e

pub returns-in-SwitchToEven : goal.returns-in-SwitchToEven
returns-in-SwitchToEven c = of-none _ c.in-SwitchToEven.is

of-name : (c : Opcode) → (c ≡ OpcodeOf.Store) ⊎ (c ≡ OpcodeOf.Restore) → 2 ≡ command_size (byte_of c)
unfolding command_size
of-name c (inl e) = rw e
of-name c (inr e) = rw e

pub returns-in-Store : goal.returns-in-Store
returns-in-Store c = of-name _ c.in-Store.is

pub returns-in-Level : goal.returns-in-Level
unfolding command_size
returns-in-Level c = rw c.in-Level.is

pub returns-in-Season : goal.returns-in-Season
unfolding command_size
returns-in-Season c = rw c.in-Season.is

pub returns-in-Position : goal.returns-in-Position
unfolding command_size
returns-in-Position c = rw c.in-Position.is

pub returns-in-Score : goal.returns-in-Score
unfolding command_size
returns-in-Score c = rw c.in-Score.is

pub returns-in-Forecast : goal.returns-in-Forecast
unfolding command_size
returns-in-Forecast c = rw c.in-Forecast.is

pub returns-in-Reading : goal.returns-in-Reading
unfolding command_size
returns-in-Reading c = rw c.in-Reading.is

pub returns-in-Variance : goal.returns-in-Variance
unfolding command_size
returns-in-Variance c = rw c.in-Variance.is

pub returns-in-RelativeVariance : goal.returns-in-RelativeVariance
unfolding command_size
returns-in-RelativeVariance c = rw c.in-RelativeVariance.is
