-- Document 01, "Commands": operands of fixed width, low byte first, signed ones in two's complement.
use Rattle.std.specs.Prelude.{ℕ, ◌+◌, ◌*◌, List, [], ◌∷◌, ℤ, take, drop, get_or}
use Rattle.std.specs.Int.{w8, w64}
use Rattle.std.proofs.Common.{Fits, to_z}

-- every element is a byte, as of a slice in the code (past the end `get_or` gives 0)
abbrev pub AreBytes : List ℕ → Type 0
AreBytes s = (i : ℕ) → Fits w8 (get_or s i 0)

-- the number of a list of bytes, low byte first
unfoldable pub from_bytes : List ℕ → ℕ
from_bytes [] = 0
from_bytes (b ∷ bs) = from_bytes bs * 256 + b

-- the operand of k bytes at an offset of a stream
abbrev pub unsigned_at : List ℕ → ℕ → ℕ → ℕ
unsigned_at s at k = from_bytes (take k (drop at s))

-- the signed 64-bit operand at an offset
abbrev pub signed_at : List ℕ → ℕ → ℤ
signed_at s at = to_z w64 (unsigned_at s at 8)
