-- The lengths of the commands and of a snapshot, and a slice with room for what is written.
use Prim.Native.Nat.{ℕ, zero, suc, ◌+◌, ◌*◌, ◌≤◌, ◌<◌}
use mathlib.Core.Path.{◌≡◌, refl}
use mathlib.Core.Bool.{Bool}
use mathlib.Core.List.{List}
use native.Mathlib.Omega.{arith}
use borrow.Author.Tests.{le-leb, lt-leb}
use lib.IntN.{ℤ, pos}
use lib.ListN.{length, length-append, get_or}
use lib.Seq.{sets}
use Rattle.state.specs.declared.Score.{Score}
use Rattle.state.specs.declared.State.{State}
use Rattle.layout.specs.CommandTable.{model_length, level_length, score_length, season_length, position_length}
use Rattle.layout.specs.Layout.{size_of}
use Rattle.saving.specs.Encoding.{to_bytes, model_bytes, level_bytes, score_bytes, season_bytes, seasons_bytes, position_bytes, encoded}
use Rattle.saving.specs.Saving.{written}

pub length-model : (outside : Bool) (model m A B G F : ℕ) → length (model_bytes outside model m A B G F) ≡ model_length
unfolding model_bytes to_bytes
length-model outside model m A B G F = refl

pub length-level : (l b : ℤ) → length (level_bytes l b) ≡ level_length
unfolding level_bytes to_bytes
length-level l b = refl

pub length-score : (s : Score) → length (score_bytes s) ≡ score_length
unfolding score_bytes to_bytes
length-score s = refl

pub length-season : (k : ℕ) (v : ℤ) → length (season_bytes k v) ≡ season_length
unfolding season_bytes to_bytes
length-season k v = refl

pub length-position : (p n : ℕ) → length (position_bytes p n) ≡ position_length
unfolding position_bytes to_bytes
length-position p n = refl

pub length-seasons : (cells : List ℤ) (n : ℕ) → length (seasons_bytes cells n) ≡ season_length * n
unfolding seasons_bytes
length-seasons cells zero = refl
length-seasons cells (suc n) =
    rw (length-append (seasons_bytes cells n) (season_bytes n (get_or cells n (pos 0))), length-seasons cells n, length-season) (omega arith)

pub length-encoded : (s : State) → length (encoded s) ≡ size_of s.period
unfolding encoded model_bytes level_bytes score_bytes position_bytes to_bytes
length-encoded s =
    rw (length-append (seasons_bytes s.seasonal s.period) (position_bytes s.index s.count), length-seasons s.seasonal s.period) (omega arith)

-- ---- so many bytes written over a slice: all of them where there is room, else none
module _ (d : List ℕ) (at : ℕ) (bytes : List ℕ) (n : ℕ) (e : length bytes ≡ n) where
  pub written-room : at + n ≤ length d → written d at bytes ≡ sets d at bytes
  unfolding written
  written-room h = rw (e, le-leb (at + n) (length d) h)

  pub written_none : length d < at + n → written d at bytes ≡ d
  unfolding written
  written_none h = rw (e, lt-leb (at + n) (length d) h)
