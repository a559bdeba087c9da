-- The limit of the sum word by word, as the code tests it.
use Prim.Native.Nat.{ℕ, ◌+◌, ◌*◌, ◌/◌, ◌%◌, ◌<◌, ◌≤◌}
use mathlib.Core.Path.{◌≡◌}
use mathlib.Core.Bool.{◌&&◌, ◌||◌}
use native.Mathlib.Decide.{ℕ_discrete, dec_le}
use native.Mathlib.Omega.{arith}
use lib.Dec.{eqb, ltb, leb}
use borrow.Author.Tests.{lt-ltb, le-ltb, le-leb, lt-leb, eq-eqb, ne_eqb}
use Rattle.state.specs.Scores.{sum_of, sum_ok}
use Rattle.state.specs.declared.Score.{Score}

-- the words of readings × 2^52
module _ (s : Score) (low : s.low < 18446744073709551616) where
  abbrev limit-high : ℕ
  limit-high = s.readings / 4096

  abbrev limit-low : ℕ
  limit-low = s.readings % 4096 * 4503599627370496

  pub words : (ltb s.high limit-high || (eqb s.high limit-high && leb s.low limit-low)) ≡ sum_ok s
  unfolding sum_ok sum_of
  words = go (dec_le (limit-high) s.high) (ℕ_discrete s.high limit-high) (dec_le s.low limit-low)
    where
      go : Dec (limit-high ≤ s.high) → Dec (s.high ≡ limit-high) → Dec (s.low ≤ limit-low) → (ltb s.high limit-high || (eqb s.high limit-high && leb s.low limit-low)) ≡ leb (s.high * 18446744073709551616 + s.low) (s.readings * 4503599627370496)
      go (no h) d e = rw (lt-ltb s.high limit-high (omega arith), le-leb (s.high * 18446744073709551616 + s.low) (s.readings * 4503599627370496) (omega arith))
      go (yes h) (no d) e = rw (le-ltb s.high limit-high h, ne_eqb s.high limit-high d, lt-leb (s.high * 18446744073709551616 + s.low) (s.readings * 4503599627370496) (omega arith))
      go (yes h) (yes d) (yes e) = rw (le-ltb s.high limit-high h, eq-eqb s.high limit-high d, le-leb s.low limit-low e, le-leb (s.high * 18446744073709551616 + s.low) (s.readings * 4503599627370496) (omega arith))
      go (yes h) (yes d) (no e) = rw (le-ltb s.high limit-high h, eq-eqb s.high limit-high d, lt-leb s.low limit-low (omega arith), lt-leb (s.high * 18446744073709551616 + s.low) (s.readings * 4503599627370496) (omega arith))
