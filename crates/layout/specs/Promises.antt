-- The promises about lengths: each case of a length, and a snapshot's length.
use Rattle.std.specs.Prelude.{ℕ, ◌+◌, ◌*◌, ◌≡◌, false, Result, Err}
use Rattle.state.specs.Rejections.{number, unless, unknown_command, IsCode}
use Rattle.state.specs.declared.Rejection.{Rejection}
use Rattle.layout.specs.Answers.{length_answer, length_code, length_value, LengthCases}
use Rattle.layout.specs.CommandTable.{is_command, command_length}
use Rattle.layout.specs.Layout.{end_at, size_of}

-- each case of a length is told by its number and its value: of every number that is a refusal's, or 0, of every refusal, of every length, and of the call for a command
pub record Lengths : Type 0 where
  pub codes : (n v : ℕ) → IsCode n → LengthCases n v
  pub accepted : (v : ℕ) → LengthCases 0 v
  pub refusals : (r : Rejection) (v : ℕ) → LengthCases (number r) v
  pub refused : (r : Rejection) (v : ℕ) → length_answer (number r) v ≡ Err r
  pub answers : (a : Result ℕ Rejection) → length_answer (length_code a) (length_value a) ≡ a
  pub calls : (b : ℕ) → length_code (command_length b) ≡ unless (is_command b) unknown_command

-- the formulas of document 02: W-204 for those that are saved, W-203 for those without command 15
pub record SizesAt (m : ℕ) : Type 0 where
  pub saved : size_of m ≡ 71 + 10 * m
  pub old : end_at false m ≡ 46 + 10 * m

abbrev pub Sizes : Type 0
Sizes = (m : ℕ) → SizesAt m
