-- Document 01, "Commands", and document 02, W-201 (18), W-211 (14), W-204 (15), W-205 (32) and W-209 (50, 51): each command's first byte, its length with its operands, and whether only a snapshot (the paper's group) holds it.
use Rattle.std.specs.Prelude.{ℕ, ◌≡◌, Bool, true, false, cond, not, ◌||◌, List, [], ◌∷◌, eqb, Result, MatchResult, Option, Some, None}
use Rattle.state.specs.Rejections.{unless, unknown_command}
use Rattle.layout.specs.Answers.{length_answer}
use Rattle.layout.specs.declared.table.Entry.{Entry}
use Rattle.layout.specs.declared.table.Opcode.{Opcode}
use Rattle.layout.specs.declared.table.Opcode.TheVariants as OpcodeOf
use Rattle.state.specs.declared.Rejection.{Rejection}
use Rattle.state.specs.declared.Rejection.TheVariants as RejectionOf

-- model byte, m byte, A, B, G, F of 32 bits
abbrev pub model_length : ℕ
model_length = 19

-- l, b of 64 bits
abbrev pub level_length : ℕ
level_length = 17

-- readings, high and low word of the sum, of 64 bits
abbrev pub score_length : ℕ
score_length = 25

-- place byte, value of 64 bits
abbrev pub season_length : ℕ
season_length = 10

-- p byte, count of 64 bits
abbrev pub position_length : ℕ
position_length = 10

pub record Command : Type 0 where
  pub first : ℕ
  pub size : ℕ
  pub inner : Bool

abbrev pub command : ℕ → ℕ → Bool → Command
command first size inner = record { first = first; size = size; inner = inner }

abbrev pub commands : List Command
commands =
    command 0x10 model_length false
    ∷ command 0x11 level_length true
    ∷ command 0x12 season_length true
    ∷ command 0x13 position_length true
    ∷ command 0x14 1 false
    ∷ command 0x15 score_length true
    ∷ command 0x18 model_length false
    ∷ command 0x20 5 false
    ∷ command 0x21 1 false
    ∷ command 0x30 3 false
    ∷ command 0x31 7 false
    ∷ command 0x32 11 false
    ∷ command 0x40 1 false
    ∷ command 0x50 2 false
    ∷ command 0x51 2 false
    ∷ []

-- the length of the command that a byte begins, 0 where it begins none
abbrev pub size_in : List Command → ℕ → ℕ
size_in [] b = 0
size_in (c ∷ cs) b = cond (eqb b c.first) c.size (size_in cs b)

unfoldable pub command_size : ℕ → ℕ
command_size b = size_in commands b

unfoldable pub is_command : ℕ → Bool
is_command b = not (eqb (command_size b) 0)

-- 11, 12, 13 and 15
abbrev pub inner_in : List Command → ℕ → Bool
inner_in [] b = false
inner_in (c ∷ cs) b = cond (eqb b c.first) c.inner (inner_in cs b)

unfoldable pub only_in_snapshot : ℕ → Bool
only_in_snapshot b = inner_in commands b

-- each command's first byte
abbrev pub byte_of : Opcode → ℕ
byte_of OpcodeOf.Open = 0x10
byte_of OpcodeOf.Level = 0x11
byte_of OpcodeOf.Season = 0x12
byte_of OpcodeOf.Position = 0x13
byte_of OpcodeOf.SwitchToEven = 0x14
byte_of OpcodeOf.Score = 0x15
byte_of OpcodeOf.OpenOutside = 0x18
byte_of OpcodeOf.Reading = 0x20
byte_of OpcodeOf.Missing = 0x21
byte_of OpcodeOf.Forecast = 0x30
byte_of OpcodeOf.Variance = 0x31
byte_of OpcodeOf.RelativeVariance = 0x32
byte_of OpcodeOf.Save = 0x40
byte_of OpcodeOf.Store = 0x50
byte_of OpcodeOf.Restore = 0x51

-- the command that a byte begins, 2 where it begins none
abbrev pub Decodes : ℕ → Result Opcode Rejection → Type 0
Decodes b r = MatchResult r (λ c. byte_of c ≡ b) (λ e. (is_command b ≡ false) × (e ≡ RejectionOf.UnknownCommand))

-- the row of a byte, none where it begins no command
unfoldable pub entry_of : ℕ → Option Entry
entry_of b = cond (is_command b) (Some (record { length = command_size b; only_in_snapshot = only_in_snapshot b })) None

-- the command that opens a snapshot: 18 for gains outside the usual region, else 10
abbrev pub opener : Bool → ℕ
opener outside = cond outside 0x18 0x10

-- whether a byte is one of the two
unfoldable pub opens : ℕ → Bool
opens b = eqb b (opener false) || eqb b (opener true)

-- the call: a command's length, or 2
unfoldable pub command_length : ℕ → Result ℕ Rejection
command_length b = length_answer (unless (is_command b) unknown_command) (command_size b)
