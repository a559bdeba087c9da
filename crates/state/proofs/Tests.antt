-- Laws of the tests that checks are made of.
use Prim.Native.Nat.{ℕ, zero, suc, ◌-◌, ◌*◌, ◌^◌, ◌<◌}
use mathlib.Core.Path.{◌≡◌, refl, ap, sym, subst}
use mathlib.Core.Bool.{Bool, true, false, cond, false≢true}
use native.Mathlib.Decide.{ℕ_discrete}
use native.Mathlib.Omega.{arith}
use lib.Dec.{eqb, eqb-suc-zero}
use lib.IntN.{ℤ, pos, negsuc}
use mir.Syntax.{Width, w32}
use mir.Val.{SFits, of_z, bits, hbits}
use mir.ValLaws.{pow-bits}
use borrow.Author.Tests.{ne_eqb, eqb-true, eqb-false}
use Rattle.state.specs.Rejections.{unless, ◌then◌}
use Rattle.state.specs.Fixed.{is_zero, is_sentinel}

-- a check that rejected nothing: its test holds
pub unless-zero : (t : Bool) (n : ℕ) → unless t (suc n) ≡ 0 → t ≡ true
unless-zero true n e = refl
unless-zero false n e = absurd (omega arith)

-- checks one after the other that rejected nothing
pub then-zero : (n k : ℕ) → (n then k) ≡ 0 → (n ≡ 0) × (k ≡ 0)
then-zero n k e = go (eqb n 0) refl e
  where
    go : (t : Bool) → eqb n 0 ≡ t → cond t k n ≡ 0 → (n ≡ 0) × (k ≡ 0)
    go true q e = (eqb-true n 0 q, e)
    go false q e = absurd (eqb-false n 0 q e)

-- one after the other: no rejection is that the first test holds and the rest rejects nothing
pub unless-then : (t : Bool) (n k : ℕ) → (unless t (suc n) then k) ≡ 0 → (t ≡ true) × (k ≡ 0)
unless-then true n k e = (refl, e)
unless-then false n k e = let z : suc n ≡ 0 = rw (eqb-suc-zero n) at e in absurd (omega arith)

-- the first rejection is the one told
pub then-first : (n k : ℕ) → (n ≡ 0 → ⊥) → (n then k) ≡ n
then-first n k h = rw (ne_eqb n 0 h)

-- a check that rejects nothing, after others
pub then-none : (n : ℕ) → (n then 0) ≡ n
then-none zero = refl
then-none (suc n) = rw (eqb-suc-zero n)

-- the code takes checks from the first on, the definition from the last
pub then-assoc : (a b c : ℕ) → ((a then b) then c) ≡ (a then b then c)
then-assoc zero b c = refl
then-assoc (suc a) b c = simp eqb-suc-zero

-- a test of bits, `z == 0`
pub zero_bits : (w : Width) (z : ℤ) → SFits w z → eqb (of_z w z) 0 ≡ is_zero z
zero_bits w (pos n) f = refl
zero_bits w (negsuc k) f =
    let e : 2 ^ bits w ≡ 2 ^ hbits w * 2 = pow-bits w in
    ne_eqb (2 ^ bits w - suc k) 0 (λ z. omega (arith, f.sfits))

-- and of the sentinel's bits
pub sentinel-bits : (y : ℤ) → SFits w32 y → eqb (of_z w32 y) 2147483648 ≡ is_sentinel y
sentinel-bits (pos n) f = let h : n < 2147483648 = f.sfits in ne_eqb n 2147483648 (λ e. omega arith)
sentinel-bits (negsuc n) f = go (ℕ_discrete n 2147483647)
  where
    go : Dec (n ≡ 2147483647) → eqb (of_z w32 (negsuc n)) 2147483648 ≡ eqb n 2147483647
    go (yes e) = subst (λ (k : ℕ). eqb (of_z w32 (negsuc k)) 2147483648 ≡ eqb k 2147483647) (sym e) refl
    go (no e) = let h : n < 2147483648 = f.sfits in rw (ne_eqb n 2147483647 e) (ne_eqb (of_z w32 (negsuc n)) 2147483648 (λ z. e (omega arith)))

pub zero_is : (v : ℤ) → is_zero v ≡ true → v ≡ pos 0
zero_is (pos n) h = ap pos (eqb-true n 0 h)
zero_is (negsuc n) h = absurd (false≢true h)
