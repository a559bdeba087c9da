-- R in 64 bits: its sum taken modulo 2^64, in two's complement, so that it is defined for every number of 64 bits. It is R wherever the sum fits.
use Rattle.std.specs.Prelude.{ℕ, ◌+◌, ◌%◌, ◌^◌, Bool, true, false, ℤ, unsigned_abs}
use Rattle.std.specs.Int.Signed.{shr_z}
use Rattle.std.specs.Int.{w64}
use Rattle.std.proofs.Common.{to_z, of_z}

-- v + c in 64 bits
abbrev pub sum64 : ℤ → ℕ → ℤ
sum64 v c = to_z w64 ((of_z w64 v + c) % 2 ^ 64)

-- R of state/specs/Fixed with that sum
unfoldable pub wrapped : Bool → ℤ → ℤ
wrapped false v = shr_z (sum64 v 32768) 65536
wrapped true v = shr_z (sum64 v (32767 + unsigned_abs (shr_z v 65536) % 2)) 65536
