-- Laws of a reply's line: how long it is, and what writing one gives.
use Prim.Native.Nat.{ℕ, zero, suc, ◌+◌, ◌*◌, ◌≤◌}
use mathlib.Core.Path.{◌≡◌, refl, sym, ap, ◌∙◌}
use mathlib.Core.Bool.{Bool}
use mathlib.Core.List.{List, [], ◌∷◌}
use native.Mathlib.Omega.{arith}
use borrow.Author.Tests.{le-leb, leb-true, ne_eqb}
use lib.Dec.{leb}
use lib.IntN.{ℤ, pos, negsuc}
use lib.ListN.{length, length-append, take}
use lib.Seq.{sets}
use Rattle.state.specs.Rejections.{unless, short_buffer, outcome, number}
use Rattle.state.proofs.Answers.{given-accepted, given-rejected, rejected, check-passes}
use Rattle.state.proofs.Tests.{unless-zero}
use Rattle.std.proofs.lemmas.Result.{err_from_is_err_and}
use Rattle.replies.specs.Replies.{fields_of}
use Rattle.lines.specs.Lines.{decimal, signed_decimal, field_bytes, fields_bytes, bytes_of, line_of, write_line, line_bytes}
use Rattle.replies.specs.declared.Reply.{Reply}
use Rattle.replies.specs.declared.Reply.TheVariants.{Opened, Residual, Missing, Forecast, Variance, Saved, Rejected, Ended, Silent, RelativeVariance}
use Rattle.replies.specs.declared.Fields.{Fields}
use Rattle.lines.proofs.DigitLaws.{length-decimal, count_most, length-hexadecimal}
use Rattle.std.specs.Prelude.{⊤, Result, Ok, Err, IsErrAnd, Option, Some, None}
use Rattle.state.specs.declared.Rejection.{Rejection}

pub length_fields : (saved : List ℕ) (f : Fields)
    → length (fields_bytes saved f) ≡ 2 + length (field_bytes saved f.first) + length (field_bytes saved f.second) + length (field_bytes saved f.third)
unfolding fields_bytes
length_fields saved f = simp length-append (omega arith)

-- ---- what writing a line gives: no room, or room enough
module _ (r : Reply) (saved d : List ℕ) where
  abbrev fits : Bool
  fits = leb (length (line_of r saved)) (length d)

  pub short : {e : Rejection} {a : Result ℕ Rejection} → Err e ≡ outcome (unless fits short_buffer) → IsErrAnd a (λ y. y ≡ e) → (a ≡ write_line r saved (length d)) × (d ≡ line_bytes r saved d)
  unfolding write_line line_bytes
  short q h =
      let g = given-rejected (unless fits short_buffer) tt _ (sym q) in
      let p = err_from_is_err_and _ h in
      (p.1 ∙ ap Err (p.2 ∙ sym g.0) ∙ sym (rejected (length (line_of r saved)) g.1), rw (ne_eqb (unless fits short_buffer) 0 g.1))

  pub long-enough : length (line_of r saved) ≤ length d
      → (write_line r saved (length d) ≡ Ok (length (line_of r saved))) × (line_bytes r saved d ≡ sets d 0 (line_of r saved))
  unfolding write_line line_bytes
  long-enough h = let e = le-leb (length (line_of r saved)) (length d) h in (rw e, rw e)

  pub has-room : {t : ⊤} → Ok t ≡ outcome (unless fits short_buffer) → length (line_of r saved) ≤ length d
  has-room q = leb-true (length (line_of r saved)) (length d) (unless-zero fits 11 (check-passes (unless fits short_buffer) q))

-- ---- the longest line is that of a save
take-most : (n : ℕ) (l : List ℕ) → length (take n l) ≤ n
take-most zero l = omega arith
take-most (suc n) [] = omega arith
take-most (suc n) (x ∷ l) = let h = take-most n l in omega arith

unsigned-most : (n : ℕ) → length (decimal n) ≤ 20
unsigned-most n = omega (arith, length-decimal n, count_most 19 n)

signed-most : (z : ℤ) → length (signed_decimal z) ≤ 21
unfolding signed_decimal
signed-most (pos n) = omega (arith, unsigned-most n)
signed-most (negsuc n) = omega (arith, unsigned-most (suc n))

-- how many bytes a reply says were saved
abbrev pub saved_count : Reply → ℕ
saved_count (Opened model m) = 0
saved_count (Residual e) = 0
saved_count Missing = 0
saved_count (Forecast h v) = 0
saved_count (Variance h high low) = 0
saved_count (Saved n) = n
saved_count (Rejected r offset) = 0
saved_count (Ended count) = 0
saved_count Silent = 0
saved_count (RelativeVariance h bits) = 0

abbrev numbers_length : List ℕ → Option Fields → ℕ
numbers_length saved None = 0
numbers_length saved (Some f) = 2 + length (field_bytes saved f.first) + length (field_bytes saved f.second) + length (field_bytes saved f.third)

length_of : (r : Reply) (saved : List ℕ) → length (line_of r saved) ≡ numbers_length saved (fields_of r)
unfolding line_of
length_of r saved = go (fields_of r)
  where
    go : (f : Option Fields) → length (bytes_of saved f) ≡ numbers_length saved f
    go None = refl
    go (Some f) = length_fields saved f

-- a line of numbers has no more than 65 bytes, as many as that of a save of 31
pub line-most : (r : Reply) (saved : List ℕ) (most : ℕ) → 31 ≤ most → saved_count r ≤ most → length (line_of r saved) ≤ 3 + 2 * most
unfolding line_of
line-most (Opened model m) saved most b h = omega (arith, length_of (Opened model m) saved, unsigned-most model, unsigned-most m)
line-most (Residual e) saved most b h = omega (arith, length_of (Residual e) saved, signed-most e)
line-most Missing saved most b h = omega (arith, length_of Missing saved)
line-most (Forecast j v) saved most b h = omega (arith, length_of (Forecast j v) saved, unsigned-most j, signed-most v)
line-most (Variance j high low) saved most b h =
    omega (arith, length_of (Variance j high low) saved, unsigned-most j, unsigned-most high, unsigned-most low)
line-most (Saved n) saved most b h = omega (arith, length_of (Saved n) saved, length-hexadecimal (take n saved), take-most n saved)
line-most (Rejected r offset) saved most b h =
    omega (arith, length_of (Rejected r offset) saved, unsigned-most (number r), unsigned-most offset)
line-most (Ended count) saved most b h = omega (arith, length_of (Ended count) saved, unsigned-most count)
line-most Silent saved most b h = omega arith
line-most (RelativeVariance j bits) saved most b h = omega (arith, length_of (RelativeVariance j bits) saved, unsigned-most j, unsigned-most bits)

-- a line that is written has room
pub written-room : (r : Reply) (saved : List ℕ) (room n : ℕ) → write_line r saved room ≡ Ok n → n ≤ room
unfolding write_line
written-room r saved room n e =
    let q = given-accepted (unless (leb (length (line_of r saved)) room) short_buffer) (length (line_of r saved)) n e in
    rw (← q.1) (leb-true (length (line_of r saved)) room (unless-zero _ 11 q.0))
