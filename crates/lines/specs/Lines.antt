-- Document 01, "The program's lines": the bytes of each line.
use Rattle.std.specs.Prelude.{ℕ, zero, suc, ◌+◌, ◌-◌, ◌*◌, ◌/◌, ◌%◌, ◌^◌, ◌≤◌, ◌<◌, ◌≡◌, cond, List, [], ◌∷◌, ◌++◌, eqb, ltb, leb, ℤ, pos, negsuc, length, take, Result, Ok, Err, Option, Some, None}
use Rattle.std.proofs.lemmas.List.Edits.{sets}
use Rattle.state.specs.Rejections.{unless, short_buffer, gives, code_in, number, IsCode}
use Rattle.replies.specs.Replies.{fields_of}
use Rattle.replies.specs.declared.Reply.{Reply}
use Rattle.replies.specs.declared.Number.{Number}
use Rattle.replies.specs.declared.Number.TheVariants.{Unsigned, Signed, Hexadecimal}
use Rattle.replies.specs.declared.Fields.{Fields}
use Rattle.state.specs.declared.Rejection.{Rejection}

-- ---- numbers

-- the k low decimal digits of n, the highest first
unfoldable pub digits : ℕ → ℕ → List ℕ
digits zero n = []
digits (suc k) n = digits k (n / 10) ++ ((48 + n % 10) ∷ [])

-- how many digits n has: 1 below 10, else one more than n / 10 has, and k + 1 at most
unfoldable pub digit_count : ℕ → ℕ → ℕ
digit_count zero n = 1
digit_count (suc k) n = cond (ltb n 10) 1 (suc (digit_count k (n / 10)))

-- an unsigned 64-bit number in decimal: it has at most 20 digits
unfoldable pub decimal : ℕ → List ℕ
decimal n = digits (digit_count 19 n) n

-- a signed one has a minus sign (45) where it is negative
unfoldable pub signed_decimal : ℤ → List ℕ
signed_decimal (pos n) = decimal n
signed_decimal (negsuc n) = 45 ∷ decimal (suc n)

-- a hexadecimal digit, 0 to 9 or a to f
abbrev pub hex_digit : ℕ → ℕ
hex_digit n = cond (ltb n 10) (48 + n) (87 + n)

-- lower-case hexadecimal, two digits to a byte
unfoldable pub hexadecimal : List ℕ → List ℕ
hexadecimal [] = []
hexadecimal (b ∷ bs) = hex_digit (b / 16) ∷ hex_digit (b % 16) ∷ hexadecimal bs

-- ---- lines

abbrev pub blank : ℕ
blank = 32

abbrev pub newline : ℕ
newline = 10

-- a number of a line with the blank before it; in hexadecimal stand the first n of the bytes that were saved
abbrev pub number_bytes : List ℕ → Number → List ℕ
number_bytes saved (Unsigned n) = blank ∷ decimal n
number_bytes saved (Signed z) = blank ∷ signed_decimal z
number_bytes saved (Hexadecimal n) = blank ∷ hexadecimal (take n saved)

abbrev pub field_bytes : List ℕ → Option Number → List ℕ
field_bytes saved None = []
field_bytes saved (Some x) = number_bytes saved x

-- a letter, up to three numbers, and the end of the line
unfoldable pub fields_bytes : List ℕ → Fields → List ℕ
fields_bytes saved f =
    f.letter ∷ (field_bytes saved f.first ++ (field_bytes saved f.second ++ (field_bytes saved f.third ++ (newline ∷ []))))

-- the line of some fields, none without them
abbrev pub bytes_of : List ℕ → Option Fields → List ℕ
bytes_of saved None = []
bytes_of saved (Some f) = fields_bytes saved f

-- the line of a reply, with the bytes that were saved
unfoldable pub line_of : Reply → List ℕ → List ℕ
line_of r saved = bytes_of saved (fields_of r)

-- ---- writing a line

-- the answer of the call: the bytes of the line, or the rejection
abbrev pub line : ℕ → ℕ → Result ℕ Rejection
line code n = gives code n

-- the paper's number of each case, 0 for a line that was written, and its bytes
abbrev pub line_code : Result ℕ Rejection → ℕ
line_code a = code_in a

abbrev pub line_length : Result ℕ Rejection → ℕ
line_length (Ok n) = n
line_length (Err r) = 0

-- each case is told by its number and its value
pub record LineCases (code n : ℕ) : Type 0 where
  pub number : line_code (line code n) ≡ code
  pub value : code ≡ 0 → line_length (line code n) ≡ n

-- what rejects writing a line into so much room, or 0
abbrev pub room_code : Reply → List ℕ → ℕ → ℕ
room_code r saved room = unless (leb (length (line_of r saved)) room) short_buffer

-- the call: the line at the start of a buffer, or the rejection, which leaves the buffer as it came
unfoldable pub write_line : Reply → List ℕ → ℕ → Result ℕ Rejection
write_line r saved room = line (room_code r saved room) (length (line_of r saved))

unfoldable pub line_bytes : Reply → List ℕ → List ℕ → List ℕ
line_bytes r saved buffer = cond (eqb (room_code r saved (length buffer)) 0) (sets buffer 0 (line_of r saved)) buffer

-- bytes stored from an offset on, and the offset past them
pub record Put (entry : List ℕ) (at : ℕ) (bytes : List ℕ) (next : ℕ) (exit : List ℕ) : Type 0 where
  pub past : next ≡ at + length bytes
  pub stored : exit ≡ sets entry at bytes

-- ---- what is promised of the definitions

-- the number that digits stand for, after those that stand for n
abbrev pub read_from : ℕ → List ℕ → ℕ
read_from n [] = n
read_from n (d ∷ ds) = read_from (n * 10 + (d - 48)) ds

-- a number in decimal is read back as itself, and with a digit less a number above 0 would not fit
pub record Decimals : Type 0 where
  pub value : (n : ℕ) → n < 10 ^ 20 → read_from 0 (decimal n) ≡ n
  pub shortest : (n : ℕ) → 1 ≤ n → 10 ^ (length (decimal n) - 1) ≤ n
  pub least : signed_decimal (negsuc 9223372036854775807)
      ≡ 45 ∷ 57 ∷ 50 ∷ 50 ∷ 51 ∷ 51 ∷ 55 ∷ 50 ∷ 48 ∷ 51 ∷ 54 ∷ 56 ∷ 53 ∷ 52 ∷ 55 ∷ 55 ∷ 53 ∷ 56 ∷ 48 ∷ 56 ∷ []

-- each case of a line's answer is told by its number and its value: of every number that is a refusal's, or 0, of every refusal, of every answer, and of every call
pub record Cases : Type 0 where
  pub codes : (code n : ℕ) → IsCode code → LineCases code n
  pub accepted : (n : ℕ) → LineCases 0 n
  pub refusals : (r : Rejection) (n : ℕ) → LineCases (number r) n
  pub refused : (r : Rejection) (n : ℕ) → line (number r) n ≡ Err r
  pub answers : (a : Result ℕ Rejection) → line (line_code a) (line_length a) ≡ a
  pub calls : (r : Reply) (saved : List ℕ) (room : ℕ) → line_code (write_line r saved room) ≡ room_code r saved room
