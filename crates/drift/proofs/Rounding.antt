-- A share's error by parts: 65536 × R(a × e) is within 32768 of a × e.
use Prim.Native.Nat.{ℕ, ◌+◌, ◌*◌, ◌≤◌}
use mathlib.Core.Bool.{Bool}
use native.Mathlib.Omega.{arith}
use lib.IntN.{ℤ, pos, ◌-ℤ◌, ◌*ℤ◌}
use Rattle.integers.proofs.Difference.{up, dn, minus, scaled}
use Rattle.integers.proofs.Bounds.{within-parts}
use Rattle.state.specs.Fixed.{share}
use Rattle.state.proofs.Rounding.{share-error}

pub share-below : (even : Bool) (a : ℕ) (e : ℤ) → 65536 * up (share even a e) + dn (pos a *ℤ e) ≤ 65536 * dn (share even a e) + up (pos a *ℤ e) + 32768
share-below even a e =
    omega (arith, within-parts (share-error even a e), scaled 2 (pos 65536 *ℤ share even a e -ℤ pos a *ℤ e), minus (pos 65536 *ℤ share even a e) (pos a *ℤ e), scaled 65536 (share even a e))

pub share-above : (even : Bool) (a : ℕ) (e : ℤ) → up (pos a *ℤ e) + 65536 * dn (share even a e) ≤ dn (pos a *ℤ e) + 65536 * up (share even a e) + 32768
share-above even a e =
    omega (arith, within-parts (share-error even a e), scaled 2 (pos 65536 *ℤ share even a e -ℤ pos a *ℤ e), minus (pos 65536 *ℤ share even a e) (pos a *ℤ e), scaled 65536 (share even a e))
