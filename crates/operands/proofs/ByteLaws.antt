-- Laws of `from_bytes` at every width, and of operands that the bytes end before or inside.
use Prim.Native.Nat.{ℕ, zero, suc, ◌+◌, ◌*◌, ◌-◌, ◌^◌, ◌≤◌, ◌<◌}
use mathlib.Core.Path.{◌≡◌, refl, sym, ap, ◌∙◌}
use mathlib.Core.List.{List, [], ◌∷◌, ◌++◌}
use native.Mathlib.Nat.{le_refl, sub_self, pow-suc, pow-le-pow_right, lt_of_lt_of_le}
use native.Mathlib.Omega.{arith}
use Rattle.std.proofs.Common.{append-nil, append_assoc, length-append, lit<}
use Rattle.std.proofs.lemmas.List.{drop_at, get_or_at}
use lib.ListN.{length, take, drop, drop_of_length-le, get_or}
use lib.Seq.{take-nil, take-take, drop-drop}
use Rattle.layout.specs.Bytes.{from_bytes, unsigned_at}

-- the last bytes are read, and those in front are left
pub record IsRead (bytes left : List ℕ) (number : ℕ) : Type 0 where
  pub split : left ++ drop (length left) bytes ≡ bytes
  pub value : number ≡ from_bytes (drop (length left) bytes)
  pub small : number < 256 ^ (length bytes - length left)

pub none-read : (bytes : List ℕ) → IsRead bytes bytes 0
unfolding from_bytes
none-read bytes =
    let e = drop_of_length-le {A = ℕ} bytes (le_refl (length bytes)) in
    record { split = rw (e, append-nil); value = rw e; small = rw sub_self (lit< tt) }

-- one byte more, from the top down
module _ (bytes left rest : List ℕ) (byte number : ℕ) (read : IsRead bytes left number) (last : left ≡ rest ++ (byte ∷ [])) where
  front : rest ++ (byte ∷ drop (length left) bytes) ≡ bytes
  front = sym (append_assoc rest (byte ∷ []) (drop (length left) bytes)) ∙ ap (λ (l : List ℕ). l ++ drop (length left) bytes) (sym last) ∙ read.split

  behind : drop (length rest) bytes ≡ byte ∷ drop (length left) bytes
  behind = ap (drop (length rest)) (sym front) ∙ drop_at rest (byte ∷ drop (length left) bytes) (length rest) refl

  shorter : length left ≡ length rest + 1
  shorter = ap length last ∙ length-append rest (byte ∷ [])

  pub byte-is : get_or bytes (length rest) 0 ≡ byte
  byte-is = ap (λ (l : List ℕ). get_or l (length rest) 0) (sym front) ∙ get_or_at rest byte (drop (length left) bytes) 0 (length rest) refl

  within : length left ≤ length bytes
  within = omega (arith, ap length read.split, length-append left (drop (length left) bytes))

  -- up to 8 bytes: at most 7 are read before this one
  pub below : length bytes ≤ 8 → number < 256 ^ 7
  below h = let e : length bytes - length left ≤ 7 = omega (arith, shorter) in lt_of_lt_of_le read.small (pow-le-pow_right (lit< tt) e)

  pub read-more : byte < 256 → IsRead bytes rest (number * 256 + byte)
  unfolding from_bytes
  read-more h =
      let e : length bytes - length rest ≡ suc (length bytes - length left) = omega (arith, shorter, within) in
      record {
        split = ap (λ (l : List ℕ). rest ++ l) behind ∙ front;
        value = rw (behind, read.value);
        small = rw (e, pow-suc 256 (length bytes - length left)) (omega (arith, read.small));
      }

pub below-power : (number j k : ℕ) → number < 256 ^ j → j ≤ k → number < 256 ^ k
below-power number j k h l = lt_of_lt_of_le h (pow-le-pow_right (lit< tt) l)

-- an operand that begins after the last byte
pub none-there : (s : List ℕ) (at k : ℕ) → length s ≤ at → unsigned_at s at k ≡ 0
unfolding from_bytes
none-there s at k h = rw (drop_of_length-le {A = ℕ} s h, take-nil {A = ℕ} k)

-- the bytes of an operand alone
pub operand-alone : (s : List ℕ) (at k : ℕ) → unsigned_at (take k (drop at s)) 0 k ≡ unsigned_at s at k
operand-alone s at k = ap from_bytes (take-take k k (drop at s) (le_refl k))

-- an operand that lies in a part of the bytes is the same there
take_part : (k at n : ℕ) (l : List ℕ) → at + k ≤ n → take k (drop at (take n l)) ≡ take k (drop at l)
take_part k zero n l h = take-take k n l (omega arith)
take_part k (suc a) zero l h = absurd (omega arith)
take_part k (suc a) (suc n) [] h = refl
take_part k (suc a) (suc n) (x ∷ xs) h = take_part k a n xs (omega arith)

pub operand-in-part : (s : List ℕ) (from n at k : ℕ) → at + k ≤ n → unsigned_at (take n (drop from s)) at k ≡ unsigned_at s (from + at) k
operand-in-part s from n at k h = ap from_bytes (take_part k at n (drop from s) h ∙ ap (take k) (drop-drop at from s))
