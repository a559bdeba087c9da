-- Laws of the digits of a line, for the functions that write them.
use Prim.Native.Nat.{ℕ, zero, suc, ◌+◌, ◌*◌, ◌/◌, ◌%◌, ◌^◌, ◌≤◌, ◌<◌}
use mathlib.Core.Path.{◌≡◌, refl, subst}
use mathlib.Core.Bool.{Bool, true, false, cond}
use mathlib.Core.List.{List, [], ◌∷◌, ◌++◌}
use native.Mathlib.Nat.{le_refl, add-zero, add-suc, suc-add, pow-suc, one-le-pow, div-lt_iff_lt-mul}
use native.Mathlib.Omega.{arith}
use borrow.Author.Tests.{lt-ltb, le-ltb, ltb-true}
use lib.Dec.{T, lit<, ltb}
use lib.IntN.{ℤ, pos, negsuc, nat_abs}
use lib.Signed.{mag, lt_z}
use lib.ListN.{length, length-append, set, drop, get_or}
use lib.Seq.{sets, set_comm, drop-cons}
use Rattle.std.specs.Prelude.{Option, None, Some, IfNone, IfSome, unwrap_or}
use Rattle.lines.specs.Lines.{digits, digit_count, decimal, signed_decimal, hex_digit, hexadecimal, Put}

pub length_digits : (k n : ℕ) → length (digits k n) ≡ k
unfolding digits
length_digits zero n = refl
length_digits (suc k) n = let e = length_digits k (n / 10) in simp (length-append, e) (omega arith)

pub length-decimal : (n : ℕ) → length (decimal n) ≡ digit_count 19 n
unfolding decimal
length-decimal n = length_digits (digit_count 19 n) n

pub length-hexadecimal : (s : List ℕ) → length (hexadecimal s) ≡ 2 * length s
unfolding hexadecimal
length-hexadecimal [] = refl
length-hexadecimal (b ∷ s) = let e = length-hexadecimal s in omega arith

-- ---- a number by its sign, as a test leaves it
negative : (z : ℤ) → lt_z z (pos 0) ≡ true → z ≡ negsuc (mag z)
negative (pos n) e = absurd (omega (arith, ltb-true n 0 e))
negative (negsuc n) e = refl

nonnegative : (z : ℤ) → lt_z z (pos 0) ≡ false → z ≡ pos (mag z)
nonnegative (pos n) e = refl
nonnegative (negsuc n) e = absurd (subst T e tt)

pub signed-negative : (z : ℤ) → lt_z z (pos 0) ≡ true → signed_decimal z ≡ 45 ∷ decimal (nat_abs z)
unfolding signed_decimal
signed-negative z e = rw (negative z e)

pub signed-nonnegative : (z : ℤ) → lt_z z (pos 0) ≡ false → signed_decimal z ≡ decimal (nat_abs z)
unfolding signed_decimal
signed-nonnegative z e = rw (nonnegative z e)

-- ---- how many digits
pub tenth : (j n : ℕ) → n < 10 ^ suc j → n / 10 < 10 ^ j
tenth j n h = (div-lt_iff_lt-mul (lit< tt)).1 (rw (pow-suc 10 j) at h)

count-is : (j k n : ℕ) → k ≤ j → 10 ^ k ≤ n → n < 10 ^ suc k → digit_count j n ≡ suc k
unfolding digit_count
count-is zero k n l p h = omega arith
count-is (suc j) zero n l p h = rw (lt-ltb n 10 h)
count-is (suc j) (suc k) n l p h =
    let q : 10 ^ suc k ≡ 10 ^ k * 10 = pow-suc 10 k in
    let e = count-is j k (n / 10) (omega arith) (omega arith) (tenth (suc k) n h) in
    rw (le-ltb n 10 (omega (arith, one-le-pow k 10 (lit< tt))), e)

-- what the logarithm tells
pub count-log : (o : Option ℕ) (n : ℕ) → IfNone o (n ≡ 0) → IfSome o (λ k. 10 ^ k ≤ n) → IfSome o (λ k. n < 10 * 10 ^ k) → IfSome o (λ k. k < 20)
    → (unwrap_or o 0 + 1 ≡ digit_count 19 n) × (unwrap_or o 0 + 1 ≤ 20)
unfolding digit_count
count-log None n z p q b = (rw z, omega arith)
count-log (Some k) n z p q b =
    let h : n < 10 ^ suc k = rw (pow-suc 10 k) (omega arith) in
    (omega (arith, count-is 19 k n (omega arith) p h), omega arith)

pub count_most : (j n : ℕ) → digit_count j n ≤ suc j
unfolding digit_count
count_most zero n = le_refl 1
count_most (suc j) n = either (ltb n 10) (digit_count j (n / 10)) (count_most j (n / 10))
  where
    either : (t : Bool) (k : ℕ) → k ≤ suc j → cond t 1 (suc k) ≤ suc (suc j)
    either true k h = omega arith
    either false k h = omega arith

-- ---- a digit that is stored before those in front of it
snoc : (d : List ℕ) (a : ℕ) (xs : List ℕ) (x : ℕ) → sets d a (xs ++ (x ∷ [])) ≡ sets (set d (a + length xs) x) a xs
snoc d a [] x = rw add-zero
snoc d a (y ∷ xs) x =
    let e : a + suc (length xs) ≡ suc a + length xs = omega arith in
    rw (e, snoc (set d a y) (suc a) xs x, set_comm d a (suc a + length xs) y x (λ q. omega arith))

pub digits_more : (d : List ℕ) (at i n : ℕ) → sets (set d (at + i) (48 + n % 10)) at (digits i (n / 10)) ≡ sets d at (digits (suc i) n)
unfolding digits
digits_more d at i n = rw (snoc d at (digits i (n / 10)) (48 + n % 10), length_digits)

-- ---- one byte more in hexadecimal
pub hex-more : (d : List ℕ) (at i : ℕ) (s : List ℕ) → i < length s
    → sets (sets d (at + 2 * i) (hex_digit (get_or s i 0 / 16) ∷ hex_digit (get_or s i 0 % 16) ∷ [])) (at + 2 * (i + 1)) (hexadecimal (drop (i + 1) s))
    ≡ sets d (at + 2 * i) (hexadecimal (drop i s))
unfolding hexadecimal
hex-more d at i s h =
    let e : at + 2 * (i + 1) ≡ suc (suc (at + 2 * i)) = omega arith in
    let f : i + 1 ≡ suc i = omega arith in
    rw (e, f, drop-cons s i 0)

-- ---- one run of bytes after another, the second where the first ends
sets-append : (d : List ℕ) (a : ℕ) (xs ys : List ℕ) → sets d a (xs ++ ys) ≡ sets (sets d a xs) (a + length xs) ys
sets-append d a [] ys = rw add-zero
sets-append d a (x ∷ xs) ys = rw (add-suc a (length xs), ← (suc-add a (length xs))) (sets-append (set d a x) (suc a) xs ys)

pub put_then : {d : List ℕ} {a : ℕ} {xs : List ℕ} {b : ℕ} {l ys : List ℕ} {e : ℕ} {m : List ℕ} → Put d a xs b l → Put l b ys e m → Put d a (xs ++ ys) e m
put_then {d} {a} {xs} {b} {l} {ys} p q =
    record {
      past = omega (arith, length-append xs ys, p.past, q.past);
      stored = rw (sets-append d a xs ys, ← p.past, ← p.stored) q.stored;
    }
