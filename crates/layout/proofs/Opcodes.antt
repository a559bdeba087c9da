-- What each command's first byte tells.
use mathlib.Core.Path.{◌≡◌, refl}
use mathlib.Core.Bool.{true, false}
use Rattle.layout.specs.CommandTable.{byte_of, command_size, is_command, only_in_snapshot}
use Rattle.layout.specs.declared.table.Opcode.{Opcode}
use Rattle.layout.specs.declared.table.Opcode.TheVariants as OpcodeOf

-- it begins a command
pub begins : (c : Opcode) → is_command (byte_of c) ≡ true
unfolding is_command command_size
begins OpcodeOf.Open = refl
begins OpcodeOf.Level = refl
begins OpcodeOf.Season = refl
begins OpcodeOf.Position = refl
begins OpcodeOf.SwitchToEven = refl
begins OpcodeOf.Score = refl
begins OpcodeOf.OpenOutside = refl
begins OpcodeOf.Reading = refl
begins OpcodeOf.Missing = refl
begins OpcodeOf.Forecast = refl
begins OpcodeOf.Variance = refl
begins OpcodeOf.RelativeVariance = refl
begins OpcodeOf.Save = refl
begins OpcodeOf.Store = refl
begins OpcodeOf.Restore = refl

-- and one that stands by itself where it is none of a snapshot's four
pub by-itself : (c : Opcode) → (c ≡ OpcodeOf.Level → ⊥) → (c ≡ OpcodeOf.Season → ⊥) → (c ≡ OpcodeOf.Position → ⊥) → (c ≡ OpcodeOf.Score → ⊥) → only_in_snapshot (byte_of c) ≡ false
unfolding only_in_snapshot
by-itself OpcodeOf.Open l s p q = refl
by-itself OpcodeOf.Level l s p q = absurd (l refl)
by-itself OpcodeOf.Season l s p q = absurd (s refl)
by-itself OpcodeOf.Position l s p q = absurd (p refl)
by-itself OpcodeOf.SwitchToEven l s p q = refl
by-itself OpcodeOf.Score l s p q = absurd (q refl)
by-itself OpcodeOf.OpenOutside l s p q = refl
by-itself OpcodeOf.Reading l s p q = refl
by-itself OpcodeOf.Missing l s p q = refl
by-itself OpcodeOf.Forecast l s p q = refl
by-itself OpcodeOf.Variance l s p q = refl
by-itself OpcodeOf.RelativeVariance l s p q = refl
by-itself OpcodeOf.Save l s p q = refl
by-itself OpcodeOf.Store l s p q = refl
by-itself OpcodeOf.Restore l s p q = refl
