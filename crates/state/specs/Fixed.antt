-- Document 01, "Grains and states" and R of "One step", with the rounding rule of document 02, W-211. Values are whole numbers of 1/65536 of a reading unit: the paper's grain, a fixed-point unit with 16 fraction bits.
use Rattle.std.specs.Prelude.{ℕ, ◌+◌, ◌%◌, Bool, true, false, ◌&&◌, eqb, ℤ, pos, negsuc, neg_ℤ, nat_abs, ◌+ℤ◌, ◌*ℤ◌}
use Rattle.std.specs.Int.Signed.{le_z, shr_z}

-- from −n to n
abbrev pub within : ℕ → ℤ → Bool
within n v = le_z (neg_ℤ (pos n)) v && le_z v (pos n)

-- a reading y is a whole number from −1,000,000 to 1,000,000
abbrev pub is_reading : ℤ → Bool
is_reading y = within 1000000 y

-- so e = 65536 × y − (l + d + s) is from −3,364,070,883,328 to that number
abbrev pub max_residual : ℕ
max_residual = 3364070883328

abbrev pub is_residual : ℤ → Bool
is_residual e = within max_residual e

-- the paper's mark, −2,147,483,648: the sentinel of a missing reading in a slice
abbrev pub is_sentinel : ℤ → Bool
is_sentinel (pos n) = false
is_sentinel (negsuc n) = eqb n 2147483647

-- level, trend and season values are from −2^40 to 2^40
abbrev pub max_value : ℕ
max_value = 1099511627776

abbrev pub in_range : ℤ → Bool
in_range v = within max_value v

abbrev pub is_zero : ℤ → Bool
is_zero (pos n) = eqb n 0
is_zero (negsuc n) = false

-- the count of steps is at most 2^48
abbrev pub max_count : ℕ
max_count = 281474976710656

-- a word of 64 bits, and the square of R(e), at most 2^52
abbrev pub word_size : ℕ
word_size = 18446744073709551616

abbrev pub max_square : ℕ
max_square = 4503599627370496

-- R(v): v/65536 to the nearest whole number. A tie goes up: the greatest whole number not above (v + 32768)/65536; or (even) to the even number: one less is
-- added where the greatest whole number not above v/65536 is even
unfoldable pub R : Bool → ℤ → ℤ
R false v = shr_z (v +ℤ pos 32768) 65536
R true v = shr_z (v +ℤ pos (32767 + nat_abs (shr_z v 65536) % 2)) 65536

-- R(a × x), the share that a 65,536th parameter a gives of x: every use of R but the score's R(e) is one
unfoldable pub share : Bool → ℕ → ℤ → ℤ
share even a x = R even (pos a *ℤ x)

-- the share of a number that is not negative, as a natural number
abbrev pub share_nat : Bool → ℕ → ℕ → ℕ
unfolding R share
share_nat even a x = nat_abs (share even a (pos x))
