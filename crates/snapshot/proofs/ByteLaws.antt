-- A law of the rest of a slice.
use Prim.Native.Nat.{ℕ, ◌-◌}
use mathlib.Core.Path.{◌≡◌}
use mathlib.Core.List.{List}
use native.Mathlib.Nat.{le_refl}
use lib.ListN.{length, length-drop, take, drop}
use lib.Seq.{take_all}

-- `&s[n..]`, as the borrow checker states it
pub rest : (s : List ℕ) (n : ℕ) → take (length s - n) (drop n s) ≡ drop n s
rest s n = take_all (length s - n) (drop n s) (rw (length-drop n s) (le_refl (length s - n)))
