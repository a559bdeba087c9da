-- Document 01's number and value of each case of a length.
use Rattle.std.specs.Prelude.{ℕ, ◌≡◌, Result, Ok, Err}
use Rattle.state.specs.Rejections.{gives, number}
use Rattle.state.specs.declared.Rejection.{Rejection}

-- n bytes where the rejection is 0, else the rejection
abbrev pub length_answer : ℕ → ℕ → Result ℕ Rejection
length_answer code n = gives code n

-- the paper's number of each case, 0 for "accepted"
abbrev pub length_code : Result ℕ Rejection → ℕ
length_code (Ok n) = 0
length_code (Err r) = number r

-- the bytes that an accepted one tells, 0 for a rejected one
abbrev pub length_value : Result ℕ Rejection → ℕ
length_value (Ok n) = n
length_value (Err r) = 0

-- each case is told by its number and its value
pub record LengthCases (n v : ℕ) : Type 0 where
  pub code : length_code (length_answer n v) ≡ n
  pub value : n ≡ 0 → length_value (length_answer n v) ≡ v
