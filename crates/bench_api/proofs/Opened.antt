-- The answer of a call on a lent slice: the slice's rejection n, else the answer a of the call on its state.
use Prim.Native.Nat.{ℕ, zero, suc}
use mathlib.Core.Path.{◌≡◌, refl, sym, ap, ◌∙◌}
use mathlib.Core.Bool.{true≢false}
use native.Mathlib.Omega.{arith}
use lib.Dec.{eqb-suc-zero}
use Rattle.std.specs.Prelude.{Result, Ok, Err, is_ok}
use Rattle.state.specs.Rejections.{accepting, rejects, code_in, ◌then◌, IsCode, short_buffer}
use Rattle.state.specs.declared.Rejection.{Rejection}
use Rattle.state.specs.declared.State.{State}
use Rattle.state.proofs.Answers.{numbered, code-then, code-unless}
use Rattle.weights.specs.Weights.{class_one_code}
use Rattle.weights.specs.Groups.{weight_groups_code}
use Rattle.weights.proofs.Codes.{code-errors}

-- its number
pub number-of : {A : Type 0} (n : ℕ) (a : Result A Rejection) → IsCode n → code_in (accepting n a rejects) ≡ (n then code_in a)
number-of zero a l = refl
number-of (suc n) a l = rw (eqb-suc-zero n) (numbered (suc n) (omega arith) l)

-- an accepted one
pub accepted : {A : Type 0} (n : ℕ) (a : Result A Rejection) {v : A} → Ok v ≡ accepting n a rejects → (n ≡ 0) × (a ≡ Ok v)
accepted zero a q = (refl, sym q)
accepted (suc n) a q = absurd (true≢false (ap is_ok (rw (eqb-suc-zero n) at q)))

-- a rejected one leaves a lent number as found
pub kept : {A B : Type 0} (n : ℕ) (a : Result A Rejection) (f : Result A Rejection → B) (old : B) → ((e : Rejection) → f (Err e) ≡ old) → {r : Rejection} → Err r ≡ accepting n a rejects → old ≡ accepting n (f a) (λ _. old)
kept zero a f old k {r} q = sym (k r) ∙ ap f q
kept (suc n) a f old k q = rw (eqb-suc-zero n)

-- the rejection of the groups of a weight is a number of the papers, or 0
pub code-groups : (s : State) (h room : ℕ) → IsCode (weight_groups_code s h room)
unfolding weight_groups_code
code-groups s h room =
    code-then (class_one_code s h) _ (code-errors _ s h) (code-unless _ short_buffer (omega arith))
