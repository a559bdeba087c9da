use Prim.Native.Nat.{ℕ, zero, suc}
use mathlib.Core.Path.{◌≡◌, refl}
use native.Mathlib.Omega.{arith}
use native.Mathlib.Nat.{div-add-mod'}
use lib.Dec.{eqb-suc-zero}
use Rattle.std.proofs.Common.{Result, Ok, Err}
use Rattle.state.specs.Rejections.{IsCode}
use Rattle.state.specs.declared.Rejection.{Rejection}
use Rattle.state.specs.declared.State.{State}
use Rattle.state.proofs.Answers.{numbered, number-code, code-number}
use Rattle.weights.specs.Weights.{weight_answer, weight_code, weight_value, variance_code, class_one_code, weight, variance, AnswerCases}
use Rattle.weights.specs.Promises.{Cases}
use Rattle.weights.proofs.Codes.{code-errors}
use Rattle.weights.proofs.promises.cases.Goals as goal

of-code : (n v : ℕ) → IsCode n → AnswerCases n v
of-code zero v l =
    record { code_of_weight = refl; value_of_weight = λ z old. refl; code_of_variance = refl; value_of_variance = λ z. div-add-mod' v 18446744073709551616 }
of-code (suc n) v l =
    record {
      code_of_weight = rw (eqb-suc-zero n) (numbered (suc n) (omega arith) l);
      value_of_weight = λ z old. absurd (omega arith);
      code_of_variance = rw (eqb-suc-zero n) (numbered (suc n) (omega arith) l);
      value_of_variance = λ z. absurd (omega arith);
    }

of-weight : (a : Result ℕ Rejection) (old : ℕ) → weight_answer (weight_code a) (weight_value a old) ≡ a
of-weight (Ok w) old = refl
of-weight (Err r) old = number-code r old

of-weight-call : (s : State) (h : ℕ) → weight_code (weight s h) ≡ class_one_code s h
unfolding weight
of-weight-call s h = (of-code (class_one_code s h) _ (code-errors _ s h)).code_of_weight

of-variance-call : (s : State) (h sigma2 : ℕ) → variance_code (variance s h sigma2) ≡ class_one_code s h
unfolding variance
of-variance-call s h sigma2 = (of-code (class_one_code s h) _ (code-errors _ s h)).code_of_variance

cases : Cases
cases =
    record {
      codes = of-code;
      accepted = λ v. of-code 0 v (omega arith);
      refusals = λ r v. of-code _ v (code-number r);
      refused_weight = λ r v. number-code r v;
      refused_variance = λ r v. number-code r _;
      weights = of-weight;
      weight_calls = of-weight-call;
      variance_calls = of-variance-call;
    }

pub returns : goal.returns
returns c = cases
