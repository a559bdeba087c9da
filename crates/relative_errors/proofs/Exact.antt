-- The division by 65536 loses nothing.
use mathlib.Core.Path.{◌≡◌, refl, sym, ap, ◌∙◌}
use mathlib.Core.Logic.{◌⊎◌, inl, inr}
use mathlib.Core.Bool.{Bool, true, false}
use Prim.Native.Nat.{ℕ, suc, ◌*◌, ◌^◌, ◌≤◌, ◌<◌}
use native.Mathlib.Nat.{eq-or-lt_of_le, mul-one, mul_comm, mul_assoc, mul-pos, lt_of_lt_of_le}
use lib.Dec.{lit<, lit≤}
use lib.IntN.{ℤ, pos, negsuc, nat_abs}
use lib.Pow.{pow_mono, shl_lt}
use lib.Ieee.{Float, nan, inf, fin, binary64, up, down, round, mul, div, of_int, of_bits}
use lib.Ieee.Fits.{down_pos}
use lib.Ieee.Exact.{HasValue, round_exact}
use lib.Ieee.Back.{round_whole}
use lib.Ieee.Scale.{round_same}
use Rattle.state.proofs.Passing.{valid}
use Rattle.weights.specs.Weights.{coefficient}
use Rattle.relative_errors.specs.Relative.{fixed_scale, from_fixed}
use Rattle.relative_errors.specs.Promises.{is_negative, Kept, NothingLost}
use Rattle.relative_errors.proofs.Bounds.{mean-small, coefficient-small}

-- n / 65536 of a whole number up to 2^53
over-scale : (s : Bool) (n : ℕ) → n ≤ 9007199254740992 → HasValue (round binary64 s n 65536) s n 65536
over-scale s n h = go (eq-or-lt_of_le h)
  where
    go : (n ≡ 9007199254740992) ⊎ (n < 9007199254740992) → HasValue (round binary64 s n 65536) s n 65536
    go (inl same) = rw same (round_exact binary64 s 9007199254740992 65536 1 1111 (lit< tt) (lit< tt) (lit< tt) refl)
    go (inr less) =
        round_exact binary64 s n 65536 n 1058 (lit< tt) less
        (lt_of_lt_of_le (shl_lt 53 1058 less) (pow_mono (lit≤ {m = 1111} {n = 2098} tt))) (sym (mul_assoc n (2 ^ 1058) 65536))

same_size : (t : Bool) (m : ℕ) (e : ℤ) (n : ℕ) → m * up e * 1 ≡ n * down e → round binary64 t (m * up e * 1) (65536 * down e) ≡ round binary64 t n 65536
same_size t m e n h =
    round_same binary64 t (m * up e * 1) (65536 * down e) n 65536 (mul-pos (lit< {m = 0} {n = 65536} tt) (down_pos e)) (lit< tt)
    (ap (λ (x : ℕ). x * 65536) h ∙ mul_assoc n (down e) 65536 ∙ ap (λ (x : ℕ). n * x) (mul_comm (down e) 65536))

-- a quotient of a number with a whole number's value
quotient : (x : Float) (s : Bool) (n : ℕ) → HasValue x s n 1 → div binary64 x fixed_scale ≡ round binary64 s n 65536
unfolding div of_bits
quotient nan s n v = absurd v
quotient (inf t) s n v = absurd v
quotient (fin true m e) s n v = same_size true m e n v.1 ∙ ap (λ (b : Bool). round binary64 b n 65536) v.0
quotient (fin false m e) s n v = same_size false m e n v.1 ∙ ap (λ (b : Bool). round binary64 b n 65536) v.0

whole-value : (z : ℤ) → nat_abs z ≤ 9007199254740992 → HasValue (of_int binary64 z) (is_negative z) (nat_abs z) 1
unfolding of_int
whole-value (pos n) h = round_whole binary64 false n h
whole-value (negsuc n) h = round_whole binary64 true (suc n) h

-- times 65536 again
again : (t : Bool) (m : ℕ) (e : ℤ) (n : ℕ) → m * up e * 65536 ≡ n * down e → round binary64 t (m * up e * 65536) (down e * 1) ≡ round binary64 t n 1
again t m e n h =
    round_same binary64 t (m * up e * 65536) (down e * 1) n 1 (mul-pos (down_pos e) (lit< {m = 0} {n = 1} tt)) (lit< tt)
    (mul-one (m * up e * 65536) ∙ h ∙ ap (λ (x : ℕ). n * x) (sym (mul-one (down e))))

product : (x : Float) (s : Bool) (n : ℕ) → HasValue x s n 65536 → mul binary64 x fixed_scale ≡ round binary64 s n 1
unfolding mul of_bits
product nan s n v = absurd v
product (inf t) s n v = absurd v
product (fin true m e) s n v = again true m e n v.1 ∙ ap (λ (b : Bool). round binary64 b n 1) v.0
product (fin false m e) s n v = again false m e n v.1 ∙ ap (λ (b : Bool). round binary64 b n 1) v.0

divided : (z : ℤ) → nat_abs z ≤ 9007199254740992 → HasValue (from_fixed z) (is_negative z) (nat_abs z) 65536
unfolding from_fixed
divided z h = rw (quotient (of_int binary64 z) (is_negative z) (nat_abs z) (whole-value z h)) (over-scale (is_negative z) (nat_abs z) h)

as-round : (z : ℤ) → round binary64 (is_negative z) (nat_abs z) 1 ≡ of_int binary64 z
unfolding of_int
as-round (pos n) = refl
as-round (negsuc n) = refl

kept : (z : ℤ) → nat_abs z ≤ 9007199254740992 → Kept z
kept z h =
    record {
      whole = whole-value z h;
      divided = divided z h;
      back = product (from_fixed z) (is_negative z) (nat_abs z) (divided z h) ∙ as-round z;
    }

pub nothing-lost : NothingLost
nothing-lost =
    record {
      each = kept;
      means = λ s e h l m. kept _ (mean-small s (valid s e) h l m);
      coefficients = λ s e j m. kept (pos (coefficient s j)) (coefficient-small s (valid s e) j m);
    }
