-- The season cells are 48: what stands for a later place changes none.
use Prim.Native.Nat.{ℕ, zero, suc, ◌≤◌}
use Rattle.std.specs.Prelude.{min}
use mathlib.Core.Path.{◌≡◌, refl, sym, ◌∙◌}
use mathlib.Core.List.{List}
use native.Mathlib.Decide.{dec_le}
use native.Mathlib.Omega.{arith}
use lib.ListN.{length, length-set}
use lib.Seq.{set_out}
use Rattle.layout.specs.Layout.{season_in}
use Rattle.fields.specs.Fields.{cells_at}

pub length-cells : (s : List ℕ) (n : ℕ) → length (cells_at s n) ≡ 48
unfolding cells_at
length-cells s zero = refl
length-cells s (suc n) = length-set (cells_at s n) n (season_in s n) ∙ length-cells s n

cells_out : (s : List ℕ) (n : ℕ) → 48 ≤ n → cells_at s (suc n) ≡ cells_at s n
unfolding cells_at
cells_out s n h = set_out (cells_at s n) n (season_in s n) (rw (length-cells s n) h)

cells-past : (s : List ℕ) (m : ℕ) → 48 ≤ m → cells_at s 48 ≡ cells_at s m
cells-past s zero h = absurd (omega arith)
cells-past s (suc n) h = go (λ q. cells-past s n q) (dec_le 48 n)
  where
    go : (48 ≤ n → cells_at s 48 ≡ cells_at s n) → Dec (48 ≤ n) → cells_at s 48 ≡ cells_at s (suc n)
    go f (yes q) = f q ∙ sym (cells_out s n q)
    go f (no q) = let e : suc n ≡ 48 = omega arith in rw e

pub cells-all : (s : List ℕ) (m k : ℕ) → k ≡ min m 48 → cells_at s k ≡ cells_at s m
cells-all s m k e = go (dec_le 48 m)
  where
    go : Dec (48 ≤ m) → cells_at s k ≡ cells_at s m
    go (yes h) = let q : k ≡ 48 = omega arith in rw q (cells-past s m h)
    go (no h) = let q : k ≡ m = omega arith in rw q
