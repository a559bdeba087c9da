-- Laws of `from_bytes` and `to_bytes` at every width, and of runs of stores.
use Prim.Native.Nat.{ℕ, zero, suc, ◌+◌, ◌/◌, ◌%◌, ◌^◌, ◌≤◌, ◌<◌}
use mathlib.Core.Path.{◌≡◌, refl, sym, ap, ap₂, ◌∙◌}
use mathlib.Core.List.{List, [], ◌∷◌, ◌++◌}
use native.Mathlib.Nat.{add-zero, add-suc, suc-add, pow-suc, div-lt_iff_lt-mul, div-div-eq-div-mul, div-one, one-le-pow}
use native.Mathlib.Omega.{arith}
use lib.Arith.{digits_div, digits_mod}
use lib.Dec.{lit<}
use lib.IntN.{ℤ}
use lib.ListN.{length, length-drop, take, drop, set}
use lib.Seq.{get_or-drop, drop-drop, sets, sets-eq, length-take-le}
use borrow.Rule.Slice.PartMut.{put_mid}
use Rattle.std.proofs.Common.{append_assoc}
use Rattle.std.specs.Int.{byte_at, bytes_low_first, to_le_bytes}
use mir.Syntax.{w64}
use mir.Val.{SFits, of_z}
use mir.ValLaws.{of_z_fits, to_z-of_z, of_z-to_z}
use Rattle.layout.specs.Bytes.{AreBytes, from_bytes, unsigned_at, signed_at}
use Rattle.saving.specs.Encoding.{to_bytes, signed_bytes}

pub bytes_drop : (a : ℕ) (xs : List ℕ) → AreBytes xs → AreBytes (drop a xs)
bytes_drop a xs h i = rw (get_or-drop a xs i 0) (h (a + i))

pub bytes_take : (n : ℕ) (xs : List ℕ) → AreBytes xs → AreBytes (take n xs)
bytes_take zero xs h i = record { fits = lit< tt }
bytes_take (suc n) [] h i = h i
bytes_take (suc n) (x ∷ xs) h zero = h 0
bytes_take (suc n) (x ∷ xs) h (suc i) = bytes_take n xs (λ j. h (suc j)) i

-- ---- the number of n bytes is below 256 ^ n
from_bytes-lt : (n : ℕ) (xs : List ℕ) → AreBytes xs → from_bytes (take n xs) < 256 ^ n
unfolding from_bytes
from_bytes-lt zero xs h = lit< tt
from_bytes-lt (suc n) [] h = one-le-pow (suc n) 256 (lit< tt)
from_bytes-lt (suc n) (x ∷ xs) h = rw (pow-suc 256 n) (omega (arith, from_bytes-lt n xs (λ i. h (suc i)), h 0))

-- ---- the low bytes as the library tells them, and stored over a part of a slice
le-bytes : (i k n : ℕ) → bytes_low_first i k n ≡ to_bytes k (n / 256 ^ i)
unfolding to_bytes
le-bytes i zero n = refl
le-bytes i (suc k) n =
    let e : n / 256 ^ i / 256 ≡ n / 256 ^ suc i = div-div-eq-div-mul n (256 ^ i) 256 ∙ ap (λ (p : ℕ). n / p) (sym (pow-suc 256 i)) in
    ap₂ (λ (b : ℕ) (bs : List ℕ). b ∷ bs) (at i) (le-bytes (suc i) k n ∙ ap (to_bytes k) (sym e))
  where
    at : (j : ℕ) → byte_at j n ≡ n / 256 ^ j % 256
    at zero = rw (div-one n)
    at (suc j) = refl

take-to_bytes : (k j n : ℕ) → k ≤ j → take k (to_bytes j n) ≡ to_bytes k n
unfolding to_bytes
take-to_bytes zero j n h = refl
take-to_bytes (suc k) zero n h = absurd (omega arith)
take-to_bytes (suc k) (suc j) n h = ap (λ (bs : List ℕ). n % 256 ∷ bs) (take-to_bytes k j (n / 256) (omega arith))

pub low-bytes : (k n : ℕ) → k ≤ 8 → take k (to_le_bytes w64 n) ≡ to_bytes k n
low-bytes k n h = ap (take k) (le-bytes 0 8 n ∙ ap (to_bytes 8) (div-one n)) ∙ take-to_bytes k 8 n h

pub stored : (d : List ℕ) (at k : ℕ) (bytes : List ℕ) → length bytes ≡ k → at + k ≤ length d → put_mid at k d bytes ≡ sets d at bytes
stored d at k bytes e h = rw (sets-eq bytes d at (omega arith), e, drop-drop k at d, append_assoc)

-- ---- the round trips, at every width
from_bytes-to_bytes : (k n : ℕ) → n < 256 ^ k → from_bytes (to_bytes k n) ≡ n
unfolding from_bytes to_bytes
from_bytes-to_bytes zero n h = omega arith
from_bytes-to_bytes (suc k) n h =
    let e : from_bytes (to_bytes k (n / 256)) ≡ n / 256 = from_bytes-to_bytes k (n / 256) ((div-lt_iff_lt-mul (lit< tt)).1 (rw (pow-suc 256 k) at h)) in
    rw e (omega arith)

to_bytes-all : (xs : List ℕ) → AreBytes xs → to_bytes (length xs) (from_bytes xs) ≡ xs
unfolding from_bytes to_bytes
to_bytes-all [] h = refl
to_bytes-all (x ∷ xs) h =
    let b : x < 256 = (h 0).fits in
    rw (digits_div (from_bytes xs) b, digits_mod (from_bytes xs) b, to_bytes-all xs (λ i. h (suc i)))

pub length-to_bytes : (k n : ℕ) → length (to_bytes k n) ≡ k
unfolding to_bytes
length-to_bytes zero n = refl
length-to_bytes (suc k) n = ap suc (length-to_bytes k (n / 256))

-- ---- operands at an offset: what was read is written again, and what was written is read
module _ (s : List ℕ) (at : ℕ) where
  pub unsigned-again : (k : ℕ) → AreBytes s → at + k ≤ length s → to_bytes k (unsigned_at s at k) ≡ take k (drop at s)
  unsigned-again k b h =
      let e : length (take k (drop at s)) ≡ k = length-take-le k (drop at s) (simp length-drop (omega arith)) in
      let p = to_bytes-all (take k (drop at s)) (bytes_take k (drop at s) (bytes_drop at s b)) in
      rw e at p

  pub signed-again : AreBytes s → at + 8 ≤ length s → signed_bytes (signed_at s at) ≡ take 8 (drop at s)
  signed-again b h =
      let f : from_bytes (take 8 (drop at s)) < 256 ^ 8 = from_bytes-lt 8 (drop at s) (bytes_drop at s b) in
      rw (of_z-to_z w64 (unsigned_at s at 8) (record { fits = f })) (unsigned-again 8 b h)

  pub unsigned-lt : (k : ℕ) → AreBytes s → unsigned_at s at k < 256 ^ k
  unsigned-lt k b = from_bytes-lt k (drop at s) (bytes_drop at s b)

  pub unsigned_back : (k n : ℕ) → take k (drop at s) ≡ to_bytes k n → n < 256 ^ k → unsigned_at s at k ≡ n
  unsigned_back k n e h = rw e (from_bytes-to_bytes k n h)

  pub signed_back : (z : ℤ) → take 8 (drop at s) ≡ signed_bytes z → SFits w64 z → signed_at s at ≡ z
  signed_back z e f = rw (unsigned_back 8 (of_z w64 z) e (of_z_fits w64 z f).fits) (to_z-of_z w64 z f)

-- ---- runs of stores one after the other, each where the one before ends
sets-append : (d : List ℕ) (a : ℕ) (xs ys : List ℕ) → sets d a (xs ++ ys) ≡ sets (sets d a xs) (a + length xs) ys
sets-append d a [] ys = rw add-zero
sets-append d a (x ∷ xs) ys = rw (add-suc a (length xs), ← (suc-add a (length xs))) (sets-append (set d a x) (suc a) xs ys)

pub follow : (d : List ℕ) (a : ℕ) (xs zs l l' : List ℕ) (b : ℕ) → l ≡ sets d a xs → l' ≡ sets l b zs → a + length xs ≡ b → l' ≡ sets d a (xs ++ zs)
follow d a xs zs l l' b e r q = rw (sets-append d a xs zs, q, ← e) r
