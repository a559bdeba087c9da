-- The laws of `Within`.
use Prim.Native.Nat.{ℕ, ◌+◌, ◌*◌, ◌^◌, ◌≤◌, ◌<◌}
use native.Mathlib.Nat.{mul-le-mul_left, mul-le-mul_right}
use native.Mathlib.Omega.{arith}
use lib.IntN.{ℤ, pos, neg_ℤ, ◌+ℤ◌, ◌-ℤ◌, ◌*ℤ◌}
use lib.Signed.{◌≤ℤ◌}
use mathlib.Core.Logic.{◌↔◌}
use mir.Syntax.{Width}
use mir.Val.{SFits, hbits, to_z, of_z}
use mir.ValLaws.{to_z-of_z}
use mathlib.Core.Path.{◌≡◌}
use Rattle.integers.specs.Bounds.{Within}
use Rattle.integers.proofs.Difference.{◌⊖◌, diff, known, up, dn}

pub ⊖-within : (n p q : ℕ) → Within n (p ⊖ q) ↔ ((q ≤ p + n) × (p ≤ n + q))
⊖-within n p q = ((λ w. plain (w.low, w.high)), (λ h. record { low = (within h).0; high = (within h).1 }))
  where
    plain : ((neg_ℤ (pos n) ≤ℤ (p ⊖ q)) × ((p ⊖ q) ≤ℤ pos n)) → (q ≤ p + n) × (p ≤ n + q)
    plain = simp diff (omega arith)

    within : (q ≤ p + n) × (p ≤ n + q) → (neg_ℤ (pos n) ≤ℤ (p ⊖ q)) × ((p ⊖ q) ≤ℤ pos n)
    within = simp diff (omega arith)

-- the recipe's set: a law over ℤ is `rw (known x, known y, ..) (simp zs (omega arith))`
pub ruleset zs = (diff, ⊖-within)

-- ---- bounds
pub within-zero : (n : ℕ) → Within n (pos 0)
within-zero n = simp zs (omega arith)

-- for omega's list, at a bound that is no numeral
pub within-parts : {n : ℕ} {x : ℤ} → Within n x → (dn x ≤ up x + n) × (up x ≤ n + dn x)
within-parts {n} {x} w = simp zs at (rw (known x) at w)

pub within-le : {n : ℕ} {x : ℤ} (m : ℕ) → n ≤ m → Within n x → Within m x
within-le {n} {x} m = rw (known x) (simp zs (omega arith))

pub within-add : {n m : ℕ} {x y : ℤ} → Within n x → Within m y → Within (n + m) (x +ℤ y)
within-add {n} {m} {x} {y} = rw (known x, known y) (simp zs (omega arith))

pub within-sub : {n m : ℕ} {x y : ℤ} → Within n x → Within m y → Within (n + m) (x -ℤ y)
within-sub {n} {m} {x} {y} = rw (known x, known y) (simp zs (omega arith))

pub within-mul : {a A n : ℕ} {x : ℤ} → a ≤ A → Within n x → Within (A * n) (pos a *ℤ x)
within-mul {a} {A} {n} {x} = rw (known x) (simp zs (λ h k. omega (arith, mul-le-mul_left a k.0, mul-le-mul_left a k.1, mul-le-mul_right n h)))

pub within-fits : {n : ℕ} {x : ℤ} (w : Width) → Within n x → n < 2 ^ hbits w → SFits w x
within-fits {n} {x} w = rw (known x) (simp zs (omega arith))

-- so it is read back as it was
pub within-back : {n : ℕ} {x : ℤ} (w : Width) → Within n x → n < 2 ^ hbits w → to_z w (of_z w x) ≡ x
within-back w h k = to_z-of_z w _ (within-fits w h k)
