-- Document 01, "Commands": the bytes of a snapshot (the paper's group), command for command.
use Rattle.std.specs.Prelude.{ℕ, zero, suc, ◌/◌, ◌%◌, Bool, List, [], ◌∷◌, ◌++◌, ℤ, pos, get_or}
use Rattle.std.specs.Int.{w64}
use Rattle.std.proofs.Common.{of_z}
use Rattle.models.specs.Models.{model_byte}
use Rattle.state.specs.declared.Score.{Score}
use Rattle.state.specs.declared.State.{State}
use Rattle.layout.specs.CommandTable.{opener}

-- the k low bytes of n, low byte first
unfoldable pub to_bytes : ℕ → ℕ → List ℕ
to_bytes zero n = []
to_bytes (suc k) n = n % 256 ∷ to_bytes k (n / 256)

-- the bytes of a signed 64-bit operand
abbrev pub signed_bytes : ℤ → List ℕ
signed_bytes z = to_bytes 8 (of_z w64 z)

-- ---- the commands
abbrev pub parameter_bytes : ℕ → ℕ → ℕ → ℕ → List ℕ
parameter_bytes A B G F = to_bytes 4 A ++ (to_bytes 4 B ++ (to_bytes 4 G ++ to_bytes 4 F))

unfoldable pub model_bytes : Bool → ℕ → ℕ → ℕ → ℕ → ℕ → ℕ → List ℕ
model_bytes outside model m A B G F = opener outside ∷ model_byte model ∷ m ∷ parameter_bytes A B G F

unfoldable pub level_bytes : ℤ → ℤ → List ℕ
level_bytes l b = 0x11 ∷ (signed_bytes l ++ signed_bytes b)

unfoldable pub score_bytes : Score → List ℕ
score_bytes s = 0x15 ∷ (to_bytes 8 s.readings ++ (to_bytes 8 s.high ++ to_bytes 8 s.low))

unfoldable pub season_bytes : ℕ → ℤ → List ℕ
season_bytes k v = 0x12 ∷ k ∷ signed_bytes v

-- places 0 to n − 1 rising
unfoldable pub seasons_bytes : List ℤ → ℕ → List ℕ
seasons_bytes cells zero = []
seasons_bytes cells (suc n) = seasons_bytes cells n ++ season_bytes n (get_or cells n (pos 0))

unfoldable pub position_bytes : ℕ → ℕ → List ℕ
position_bytes p n = 0x13 ∷ p ∷ to_bytes 8 n

-- ---- the snapshot of a state
unfoldable pub encoded : State → List ℕ
encoded s =
    model_bytes s.outside s.model s.period s.alpha s.beta s.gamma s.phi
    ++ (level_bytes s.level s.trend
    ++ (score_bytes s.score
    ++ (seasons_bytes s.seasonal s.period
    ++ position_bytes s.index s.count)))
