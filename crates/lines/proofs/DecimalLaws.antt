-- A number in decimal is read back as itself, and no shorter run of digits holds it.
use Prim.Native.Nat.{ℕ, zero, suc, ◌+◌, ◌-◌, ◌*◌, ◌/◌, ◌^◌, ◌≤◌, ◌<◌}
use mathlib.Core.Path.{◌≡◌, refl}
use mathlib.Core.Bool.{Bool, true, false, cond}
use mathlib.Core.List.{List, [], ◌∷◌, ◌++◌}
use native.Mathlib.Nat.{pow-suc}
use native.Mathlib.Omega.{arith}
use borrow.Author.Tests.{ltb-true, ltb-false}
use lib.Dec.{ltb}
use Rattle.std.proofs.Common.{Result, Ok, Err}
use Rattle.state.specs.Rejections.{IsCode, short_buffer}
use Rattle.state.specs.declared.Rejection.{Rejection}
use Rattle.state.proofs.Answers.{code-of, code-number, number-code, code-unless}
use Rattle.replies.specs.declared.Reply.{Reply}
use Rattle.lines.specs.Lines.{digits, digit_count, decimal, signed_decimal, read_from, line, line_code, line_length, LineCases, room_code, write_line, Decimals, Cases}
use Rattle.lines.proofs.DigitLaws.{tenth, length-decimal}

one-digit : (n : ℕ) (ds : List ℕ) (d : ℕ) → read_from n (ds ++ (d ∷ [])) ≡ read_from n ds * 10 + (d - 48)
one-digit n [] d = refl
one-digit n (c ∷ ds) d = one-digit (n * 10 + (c - 48)) ds d

digits_value : (k n : ℕ) → n < 10 ^ k → read_from 0 (digits k n) ≡ n
unfolding digits
digits_value zero n h = omega arith
digits_value (suc k) n h =
    let e = digits_value k (n / 10) (tenth k n h) in
    rw (one-digit 0 (digits k (n / 10)) _, e) (omega arith)

holds : (j n : ℕ) → n < 10 ^ suc j → n < 10 ^ digit_count j n
unfolding digit_count
holds zero n h = h
holds (suc j) n h = either (ltb n 10) refl (holds j (n / 10) (tenth (suc j) n h))
  where
    either : (t : Bool) → ltb n 10 ≡ t → n / 10 < 10 ^ digit_count j (n / 10) → n < 10 ^ cond t 1 (suc (digit_count j (n / 10)))
    either true e f = omega (arith, ltb-true n 10 e)
    either false e f = rw (pow-suc 10 (digit_count j (n / 10))) (omega arith)

decimal-value : (n : ℕ) → n < 10 ^ 20 → read_from 0 (decimal n) ≡ n
unfolding decimal
decimal-value n h = digits_value (digit_count 19 n) n (holds 19 n h)

count-least : (j n : ℕ) → 1 ≤ digit_count j n
unfolding digit_count
count-least zero n = omega arith
count-least (suc j) n = either (ltb n 10) (digit_count j (n / 10))
  where
    either : (t : Bool) (k : ℕ) → 1 ≤ cond t 1 (suc k)
    either true k = omega arith
    either false k = omega arith

-- with a digit less a number above 0 would not fit
shortest : (j n : ℕ) → 1 ≤ n → 10 ^ (digit_count j n - 1) ≤ n
unfolding digit_count
shortest zero n h = h
shortest (suc j) n h = either (ltb n 10) refl (shortest j (n / 10))
  where
    either : (t : Bool) → ltb n 10 ≡ t → (1 ≤ n / 10 → 10 ^ (digit_count j (n / 10) - 1) ≤ n / 10) → 10 ^ (cond t 1 (suc (digit_count j (n / 10))) - 1) ≤ n
    either true e f = h
    either false e f =
        let c = digit_count j (n / 10) in
        let b = ltb-false n 10 e in
        let p : suc c - 1 ≡ suc (c - 1) = omega (arith, count-least j (n / 10)) in
        let q : 10 ^ (c - 1) ≤ n / 10 = f (omega arith) in
        rw (p, pow-suc 10 (c - 1)) (omega arith)

-- the least signed 64-bit number is computed
pub decimals : Decimals
unfolding signed_decimal decimal digits digit_count
decimals = record { value = decimal-value; shortest = λ n h. rw (length-decimal n) (shortest 19 n h); least = refl }

of-code : (code n : ℕ) → IsCode code → LineCases code n
of-code code n l = record { number = code-of code n l; value = λ z. rw z }

of-answer : (a : Result ℕ Rejection) → line (line_code a) (line_length a) ≡ a
of-answer (Ok n) = refl
of-answer (Err r) = number-code r 0

of-call : (r : Reply) (saved : List ℕ) (room : ℕ) → line_code (write_line r saved room) ≡ room_code r saved room
unfolding write_line
of-call r saved room = code-of (room_code r saved room) _ (code-unless _ short_buffer (omega arith))

pub cases : Cases
cases =
    record {
      codes = of-code;
      accepted = λ n. of-code 0 n (omega arith);
      refusals = λ r n. of-code _ n (code-number r);
      refused = λ r n. number-code r n;
      answers = of-answer;
      calls = of-call;
    }
