-- Document 01, "The program's lines": the letter and the numbers of each answer.
use Rattle.std.specs.Prelude.{ℕ, Bool, true, false, Option, Some, None}
use Rattle.state.specs.Rejections.{number}
use Rattle.replies.specs.declared.Reply.{Reply}
use Rattle.replies.specs.declared.Reply.TheVariants as ReplyOf
use Rattle.replies.specs.declared.Number.{Number}
use Rattle.replies.specs.declared.Number.TheVariants.{Unsigned, Signed, Hexadecimal}
use Rattle.replies.specs.declared.Fields.{Fields}

abbrev pub fields : ℕ → Option Number → Option Number → Option Number → Option Fields
fields letter a b c = Some (record { letter = letter; first = a; second = b; third = c })

-- the letters
abbrev pub letter_o : ℕ
letter_o = 79

abbrev pub letter_e : ℕ
letter_e = 69

abbrev pub letter_m : ℕ
letter_m = 77

abbrev pub letter_f : ℕ
letter_f = 70

abbrev pub letter_v : ℕ
letter_v = 86

-- document 02, W-205
abbrev pub letter_w : ℕ
letter_w = 87

abbrev pub letter_s : ℕ
letter_s = 83

abbrev pub letter_x : ℕ
letter_x = 88

abbrev pub letter_n : ℕ
letter_n = 78

-- each case of a reply by the letter and the values that the paper gives it; an answer without a line has none (document 02, W-211)
abbrev pub fields_of : Reply → Option Fields
fields_of (ReplyOf.Opened model m) = fields letter_o (Some (Unsigned model)) (Some (Unsigned m)) None
fields_of (ReplyOf.Residual e) = fields letter_e (Some (Signed e)) None None
fields_of ReplyOf.Missing = fields letter_m None None None
fields_of (ReplyOf.Forecast h v) = fields letter_f (Some (Unsigned h)) (Some (Signed v)) None
fields_of (ReplyOf.Variance h high low) = fields letter_v (Some (Unsigned h)) (Some (Unsigned high)) (Some (Unsigned low))
fields_of (ReplyOf.Saved n) = fields letter_s (Some (Hexadecimal n)) None None
fields_of (ReplyOf.Rejected r offset) = fields letter_x (Some (Unsigned (number r))) (Some (Unsigned offset)) None
fields_of (ReplyOf.Ended count) = fields letter_n (Some (Unsigned count)) None None
fields_of ReplyOf.Silent = None
fields_of (ReplyOf.RelativeVariance h bits) = fields letter_w (Some (Unsigned h)) (Some (Unsigned bits)) None

-- X and N are a stream's last answers
abbrev pub is_last : Reply → Bool
is_last (ReplyOf.Opened model m) = false
is_last (ReplyOf.Residual e) = false
is_last ReplyOf.Missing = false
is_last (ReplyOf.Forecast h v) = false
is_last (ReplyOf.Variance h high low) = false
is_last (ReplyOf.Saved n) = false
is_last (ReplyOf.Rejected r offset) = true
is_last (ReplyOf.Ended count) = true
is_last ReplyOf.Silent = false
is_last (ReplyOf.RelativeVariance h bits) = false
