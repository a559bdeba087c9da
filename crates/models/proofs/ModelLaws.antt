-- The model byte: one test over all its values.
use Prim.Native.Nat.{ℕ, ◌%◌, ◌<◌, ◌≤◌}
use mathlib.Core.Path.{◌≡◌, refl, sym, ◌∙◌}
use mathlib.Core.Bool.{Bool, true, false, not, cond, ◌&&◌, ◌||◌, false≢true}
use native.Mathlib.Decide.{dec_le}
use native.Mathlib.Omega.{arith}
use lib.Bits.{bit_and, bit_or}
use lib.Dec.{eqb}
use borrow.Author.Tests.{ne_eqb, eqb-true, eqb-false, not-true}
use Rattle.integers.specs.Below.{all_below}
use Rattle.integers.proofs.Tests.{both, all_below-at}
use Rattle.models.specs.Models.{to_up, to_additive, to_even, model_byte, valid_model}

same : Bool → Bool → Bool
same a b = cond a b (not b)

same-is : (a b : Bool) → same a b ≡ true → a ≡ b
unfolding same
same-is true true h = refl
same-is true false h = sym h
same-is false true h = h
same-is false false h = refl

model-test : ℕ → Bool
model-test b =
    same (eqb (bit_and b 0xb0) 0 && not (eqb (b % 4) 3)) (valid_model b) && (not (valid_model b) || eqb (model_byte b) b)
    && eqb (bit_or b 0x40) (to_even b)

model-tested : all_below 256 model-test ≡ true
unfolding all_below model-test same
model-tested = refl

model_at : (b : ℕ) → b < 256 → model-test b ≡ true
model_at b h = all_below-at 256 model-test model-tested b h

-- the code's test of it
pub model-law : (b : ℕ) → b < 256 → (eqb (bit_and b 0xb0) 0 && not (eqb (b % 4) 3)) ≡ valid_model b
unfolding model-test
model-law b h = same-is _ _ (both _ _ (both _ _ (model_at b h)).0).0

pub even-law : (b : ℕ) → b < 256 → bit_or b 0x40 ≡ to_even b
unfolding model-test
even-law b h = eqb-true (bit_or b 0x40) (to_even b) (both (same (eqb (bit_and b 0xb0) 0 && not (eqb (b % 4) 3)) (valid_model b) && (not (valid_model b) || eqb (model_byte b) b)) _ (model_at b h)).1

pub valid-small : (b : ℕ) → valid_model b ≡ true → b < 256
valid-small b v = go (dec_le 256 b)
  where
    go : Dec (256 ≤ b) → b < 256
    go (yes h) =
        absurd (false≢true (rw (not-up 0 (omega arith), not-up 1 (omega arith), not-up 2 (omega arith), not-up 4 (omega arith), not-up 5 (omega arith), not-up 6 (omega arith)) at v))
      where
        not-up : (k : ℕ) → k < 8 → eqb (to_additive (to_up b)) k ≡ false
        not-up k s = ne_eqb (to_additive (to_up b)) k (λ e. omega arith)
    go (no h) = omega arith

-- taken apart and put together again
pub model-again : (b : ℕ) → valid_model b ≡ true → model_byte b ≡ b
unfolding model-test
model-again b v =
    let t = both (same (eqb (bit_and b 0xb0) 0 && not (eqb (b % 4) 3)) (valid_model b)) (not (valid_model b) || eqb (model_byte b) b) (both _ _ (model_at b (valid-small b v))).0 in
    eqb-true (model_byte b) b (rw v at t.1)

-- a valid byte has no trend 3
pub no_third : (b : ℕ) → valid_model b ≡ true → b % 4 ≡ 3 → ⊥
no_third b v e =
    let t = both (eqb (bit_and b 0xb0) 0) (not (eqb (b % 4) 3)) (model-law b (valid-small b v) ∙ v) in
    eqb-false (b % 4) 3 (not-true (eqb (b % 4) 3) t.1) e
