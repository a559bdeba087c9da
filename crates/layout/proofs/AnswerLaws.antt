-- What a length tells of the rejection and the number that it was made of.
use Prim.Native.Nat.{ℕ, zero, suc}
use mathlib.Core.Path.{◌≡◌, refl}
use native.Mathlib.Omega.{arith}
use lib.Dec.{eqb-suc-zero}
use Rattle.std.proofs.Common.{Result, Ok, Err}
use Rattle.state.specs.Rejections.{unless, unknown_command, IsCode}
use Rattle.state.specs.declared.Rejection.{Rejection}
use Rattle.state.proofs.Answers.{numbered, number-code, code-number, code-unless}
use Rattle.layout.specs.Answers.{length_answer, length_code, length_value, LengthCases}
use Rattle.layout.specs.CommandTable.{is_command, command_length}
use Rattle.layout.specs.Promises.{Lengths}

of-code : (n v : ℕ) → IsCode n → LengthCases n v
of-code zero v l = record { code = refl; value = λ z. refl }
of-code (suc n) v l = record { code = rw (eqb-suc-zero n, numbered (suc n) (omega arith) l); value = λ z. absurd (omega arith) }

of-answer : (a : Result ℕ Rejection) → length_answer (length_code a) (length_value a) ≡ a
of-answer (Ok n) = refl
of-answer (Err r) = number-code r 0

of-call : (b : ℕ) → length_code (command_length b) ≡ unless (is_command b) unknown_command
unfolding command_length
of-call b = (of-code (unless (is_command b) unknown_command) _ (code-unless _ unknown_command (omega arith))).code

pub lengths : Lengths
lengths =
    record {
      codes = of-code;
      accepted = λ v. of-code 0 v (omega arith);
      refusals = λ r v. of-code _ v (code-number r);
      refused = λ r v. number-code r v;
      answers = of-answer;
      calls = of-call;
    }
