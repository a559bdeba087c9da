-- Document 01, "One step", and document 02, W-211: what R is by each rounding rule, promised of the definition.
use Rattle.std.specs.Prelude.{ℕ, ◌%◌, ◌≤◌, Bool, true, false, ◌≡◌, ℤ, pos, nat_abs, ◌+ℤ◌, ◌-ℤ◌, ◌*ℤ◌, ◌≤ℤ◌}
use Rattle.integers.specs.Bounds.{Within}
use Rattle.state.specs.Fixed.{R, share}

-- at most half a unit from v/65536
abbrev pub Nearest : ℤ → ℤ → Type 0
Nearest v r = Within 65536 (pos 2 *ℤ (pos 65536 *ℤ r -ℤ v))

-- v lies in the middle between k and the next whole number
abbrev pub Tie : ℤ → ℤ → Type 0
Tie v k = v ≡ pos 65536 *ℤ k +ℤ pos 32768

abbrev pub Even : ℤ → Type 0
Even r = nat_abs r % 2 ≡ 0

-- by either rule
pub record Rounds (even : Bool) : Type 0 where
  pub error : (v : ℤ) → Nearest v (R even v)
  -- whole numbers are kept
  pub whole : (k : ℤ) → R even (pos 65536 *ℤ k) ≡ k
  -- and it never falls as v rises
  pub mono : (v w : ℤ) → v ≤ℤ w → R even v ≤ℤ R even w
  -- the share of a parameter, which is at most 1, is never further from 0
  pub shrinks : (a n : ℕ) (x : ℤ) → a ≤ 65536 → Within n x → Within n (share even a x)

pub record Rounding : Type 0 where
  pub rounds : (even : Bool) → Rounds even
  -- ties up: not above (v + 32768)/65536, and the greatest such whole number
  pub low : (v : ℤ) → (pos 65536 *ℤ R false v) ≤ℤ (v +ℤ pos 32768)
  pub greatest : (v k : ℤ) → (pos 65536 *ℤ k) ≤ℤ (v +ℤ pos 32768) → k ≤ℤ R false v
  -- ties to even: even at a tie, and the only nearest number that is
  pub even : (v k : ℤ) → Tie v k → Even (R true v)
  pub only : (v r : ℤ) → Nearest v r → ((k : ℤ) → Tie v k → Even r) → r ≡ R true v
