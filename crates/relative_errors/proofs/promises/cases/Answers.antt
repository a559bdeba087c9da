use Prim.Native.Nat.{ℕ, zero, suc}
use mathlib.Core.Path.{◌≡◌, refl}
use native.Mathlib.Omega.{arith}
use lib.Dec.{eqb-suc-zero}
use Rattle.std.specs.Prelude.{Float}
use Rattle.std.proofs.Common.{Result, Ok, Err}
use Rattle.state.specs.Rejections.{IsCode, bad_sigma2, short_buffer, not_finite}
use Rattle.state.specs.declared.Rejection.{Rejection}
use Rattle.state.specs.declared.State.{State}
use Rattle.state.proofs.Answers.{numbered, number-code, code-number, code-then, code-unless}
use Rattle.weights.proofs.Codes.{code-errors}
use Rattle.relative_errors.specs.Relative.{input_code, relative_code, relative_answer, answer_code, answer_value, relative_variance}
use Rattle.relative_errors.specs.Promises.{AnswerCases, Cases}
use Rattle.relative_errors.proofs.promises.cases.Goals as goal

of-code : (n : ℕ) (v : Float) → IsCode n → AnswerCases n v
of-code zero v l = record { code = refl; value = λ z old. refl }
of-code (suc n) v l = record { code = rw (eqb-suc-zero n) (numbered (suc n) (omega arith) l); value = λ z old. absurd (omega arith) }

of-answer : (a : Result Float Rejection) (old : Float) → relative_answer (answer_code a) (answer_value a old) ≡ a
of-answer (Ok v) old = refl
of-answer (Err r) old = number-code r old

-- the rejection of the call is a number of the papers, or 0
code-relative : (s : State) (h bits room : ℕ) → IsCode (relative_code s h bits room)
unfolding relative_code input_code
code-relative s h bits room =
    code-then _ _ (code-then _ _ (code-errors _ s h) (code-then _ _ (code-unless _ bad_sigma2 (omega arith)) (code-unless _ short_buffer (omega arith)))) (code-unless _ not_finite (omega arith))

of-call : (s : State) (h bits room : ℕ) → answer_code (relative_variance s h bits room) ≡ relative_code s h bits room
unfolding relative_variance
of-call s h bits room = (of-code (relative_code s h bits room) _ (code-relative s h bits room)).code

cases : Cases
cases =
    record {
      codes = of-code;
      accepted = λ v. of-code 0 v (omega arith);
      refusals = λ r v. of-code _ v (code-number r);
      refused = λ r v. number-code r v;
      answers = of-answer;
      calls = of-call;
    }

pub returns : goal.returns
returns c = cases
