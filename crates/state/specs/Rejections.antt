-- Document 01, "Refusals, in checking order", and those of document 02: each number once, with its sentence. A code is the number of a refusal, or 0 for "accepted".
use Rattle.std.specs.Prelude.{ℕ, ◌≤◌, Bool, cond, eqb, ℤ, pos, Result, Ok, Err, ⊤}
use Rattle.state.specs.declared.Rejection.{Rejection}
use Rattle.state.specs.declared.Rejection.TheVariants as RejectionOf

-- The program's input is longer than 65,536 bytes.
abbrev pub input_too_long : ℕ
input_too_long = 1

-- The first byte of a command is none of those above.
abbrev pub unknown_command : ℕ
unknown_command = 2

-- The command is out of place: inside a group it isn't the one due; outside one it is a command that only a group holds, or no state is open and it is neither 10 nor 18; or
-- (document 02, W-205) it is 31 or another call of Class 1 and the model has multiplicative errors, or 32 and it has additive ones.
abbrev pub out_of_place : ℕ
out_of_place = 3

-- The bytes end inside a command, or before a group begun or called for is finished.
abbrev pub truncated : ℕ
truncated = 4

-- The model byte is not valid.
abbrev pub bad_model : ℕ
bad_model = 5

-- The season length is not one the model allows.
abbrev pub bad_period : ℕ
bad_period = 6

-- A parameter is not one the model allows; or 18, or a state that it opened, has gains inside the usual region.
abbrev pub bad_parameter : ℕ
bad_parameter = 7

-- A season's place is not the one due.
abbrev pub wrong_index : ℕ
wrong_index = 8

-- A level, trend or season value is out of range, or not 0 where the model has none.
abbrev pub bad_value : ℕ
bad_value = 9

-- The place is out of range, or the count is above 2^48.
abbrev pub bad_position : ℕ
bad_position = 10

-- The horizon is outside 1 to 512, or on the bedside display outside 1 to 48.
abbrev pub bad_horizon : ℕ
bad_horizon = 11

-- A slice to be written is shorter than needed.
abbrev pub short_buffer : ℕ
short_buffer = 12

-- The reading is out of range and, in a slice, not the mark.
abbrev pub bad_reading : ℕ
bad_reading = 13

-- The count already stands at 2^48.
abbrev pub count_full : ℕ
count_full = 14

-- A new level, trend or season value would leave its range.
abbrev pub leaves_range : ℕ
leaves_range = 15

-- Command 10, or a state that it opened, has gains outside the usual region. (Checked right after 7.)
abbrev pub unusual_gains : ℕ
unusual_gains = 16

-- The real readings exceed the count, or the sum of their squares exceeds readings × 2^52. (Checked right after 10.)
abbrev pub bad_score : ℕ
bad_score = 17

-- The bits of σ² as an unsigned number exceed those of 1.0. (Checked right after 11.)
abbrev pub bad_sigma2 : ℕ
bad_sigma2 = 18

-- A θ, an S or the variance is not finite. (Checked last.)
abbrev pub not_finite : ℕ
not_finite = 19

-- A list of clock changes is not strictly rising, a count is in both lists, a window's start or end is above 23, no step is in the window, or m is not 24. (Checked right
-- after 12.)
abbrev pub bad_calendar : ℕ
bad_calendar = 20

-- The name of a kept state is above 3, or holds nothing when 51 comes. (Checked right after 17.)
abbrev pub no_checkpoint : ℕ
no_checkpoint = 21

-- a check: 0 where the test holds, else its rejection
abbrev pub unless : Bool → ℕ → ℕ
unless holds n = cond holds 0 n

-- checks one after the other: the first rejection, or what the later ones say
infixr 3 ◌then◌
abbrev pub ◌then◌ : ℕ → ℕ → ℕ
n then k = cond (eqb n 0) k n

-- what a call gives: a where its code is 0, else what the rejection makes
abbrev pub accepting : {A : Type 0} → ℕ → A → (ℕ → A) → A
accepting code a r = cond (eqb code 0) a (r code)

-- the number of each refusal of the code
abbrev pub number : Rejection → ℕ
number RejectionOf.InputTooLong = input_too_long
number RejectionOf.UnknownCommand = unknown_command
number RejectionOf.OutOfPlace = out_of_place
number RejectionOf.Truncated = truncated
number RejectionOf.BadModel = bad_model
number RejectionOf.BadPeriod = bad_period
number RejectionOf.BadParameter = bad_parameter
number RejectionOf.WrongIndex = wrong_index
number RejectionOf.BadValue = bad_value
number RejectionOf.BadPosition = bad_position
number RejectionOf.BadHorizon = bad_horizon
number RejectionOf.ShortBuffer = short_buffer
number RejectionOf.BadReading = bad_reading
number RejectionOf.CountFull = count_full
number RejectionOf.LeavesRange = leaves_range
number RejectionOf.UnusualGains = unusual_gains
number RejectionOf.BadScore = bad_score
number RejectionOf.BadSigma2 = bad_sigma2
number RejectionOf.NotFinite = not_finite
number RejectionOf.BadCalendar = bad_calendar
number RejectionOf.NoCheckpoint = no_checkpoint

-- the refusal of a number from 1 to 21
unfoldable pub rejection_of : ℕ → Rejection
rejection_of n =
    cond (eqb n input_too_long) RejectionOf.InputTooLong (
    cond (eqb n unknown_command) RejectionOf.UnknownCommand (
    cond (eqb n out_of_place) RejectionOf.OutOfPlace (
    cond (eqb n truncated) RejectionOf.Truncated (
    cond (eqb n bad_model) RejectionOf.BadModel (
    cond (eqb n bad_period) RejectionOf.BadPeriod (
    cond (eqb n bad_parameter) RejectionOf.BadParameter (
    cond (eqb n wrong_index) RejectionOf.WrongIndex (
    cond (eqb n bad_value) RejectionOf.BadValue (
    cond (eqb n bad_position) RejectionOf.BadPosition (
    cond (eqb n bad_horizon) RejectionOf.BadHorizon (
    cond (eqb n short_buffer) RejectionOf.ShortBuffer (
    cond (eqb n bad_reading) RejectionOf.BadReading (
    cond (eqb n count_full) RejectionOf.CountFull (
    cond (eqb n leaves_range) RejectionOf.LeavesRange (
    cond (eqb n unusual_gains) RejectionOf.UnusualGains (
    cond (eqb n bad_score) RejectionOf.BadScore (
    cond (eqb n bad_sigma2) RejectionOf.BadSigma2 (
    cond (eqb n not_finite) RejectionOf.NotFinite (
    cond (eqb n bad_calendar) RejectionOf.BadCalendar (
    RejectionOf.NoCheckpoint))))))))))))))))))))

-- a number that is a refusal's, or 0
abbrev pub IsCode : ℕ → Type 0
IsCode n = n ≤ 21

-- a call refused by the refusal of a number
abbrev pub rejects : {A : Type 0} → ℕ → Result A Rejection
rejects n = Err (rejection_of n)

-- a call's answer: v, or the refusal n where it is not 0
abbrev pub gives : {A : Type 0} → ℕ → A → Result A Rejection
gives n v = accepting n (Ok v) rejects

-- an answer without a number: accepted where the rejection n is 0
abbrev pub Outcome : Type 0
Outcome = Result ⊤ Rejection

abbrev pub outcome : ℕ → Outcome
outcome n = gives n tt

-- an answer with a number v: accepted where the rejection n is 0
abbrev pub Answer : Type 0
Answer = Result ℤ Rejection

abbrev pub answer : ℕ → ℤ → Answer
answer n v = gives n v

-- the paper's number of each case, 0 for "accepted"
abbrev pub code_in : {A : Type 0} → Result A Rejection → ℕ
code_in (Ok v) = 0
code_in (Err r) = number r

abbrev pub outcome_code : Outcome → ℕ
outcome_code o = code_in o

abbrev pub answer_code : Answer → ℕ
answer_code a = code_in a

-- the number of an accepted answer, 0 for a rejected one
abbrev pub answer_value : Answer → ℤ
answer_value (Ok v) = v
answer_value (Err r) = pos 0

-- what is made of a call's answer, by its cases
abbrev pub by_result : {A B : Type 0} → Result B Rejection → (B → A) → (Rejection → A) → A
by_result (Ok v) a r = a v
by_result (Err e) a r = r e

abbrev pub by_outcome : {A : Type 0} → Outcome → A → (Rejection → A) → A
by_outcome o a r = by_result o (λ _. a) r

abbrev pub by_answer : {A : Type 0} → Answer → (ℤ → A) → (Rejection → A) → A
by_answer o a r = by_result o a r
