-- What an answer tells of the rejection and the number that it was made of.
use Prim.Native.Nat.{ℕ, zero, suc, ◌<◌}
use mathlib.Core.Path.{◌≡◌, refl, sym, ap, ◌∙◌}
use mathlib.Core.Bool.{Bool, true, false, true≢false}
use native.Mathlib.Omega.{arith}
use lib.Dec.{eqb-suc-zero}
use lib.IntN.{ℤ}
use borrow.Author.Tests.{ne_eqb}
use Rattle.std.proofs.Common.{Result, Ok, Err}
use Rattle.std.specs.Prelude.{⊤, is_ok, IsErrAnd}
use Rattle.std.proofs.lemmas.Result.{err_from_is_err_and}
use Rattle.state.specs.Rejections.{number, rejection_of, accepting, rejects, gives, code_in, ◌then◌, unless, IsCode, outcome, answer, outcome_code, answer_code}
use Rattle.state.proofs.Tests.{then-none, then-first}
use Rattle.state.specs.declared.Rejection.{Rejection}
use Rattle.state.specs.declared.Rejection.TheVariants as RejectionOf

-- the refusal of a refusal's number
pub same-rejection : (r : Rejection) → rejection_of (number r) ≡ r
unfolding rejection_of
same-rejection RejectionOf.InputTooLong = refl
same-rejection RejectionOf.UnknownCommand = refl
same-rejection RejectionOf.OutOfPlace = refl
same-rejection RejectionOf.Truncated = refl
same-rejection RejectionOf.BadModel = refl
same-rejection RejectionOf.BadPeriod = refl
same-rejection RejectionOf.BadParameter = refl
same-rejection RejectionOf.WrongIndex = refl
same-rejection RejectionOf.BadValue = refl
same-rejection RejectionOf.BadPosition = refl
same-rejection RejectionOf.BadHorizon = refl
same-rejection RejectionOf.ShortBuffer = refl
same-rejection RejectionOf.BadReading = refl
same-rejection RejectionOf.CountFull = refl
same-rejection RejectionOf.LeavesRange = refl
same-rejection RejectionOf.UnusualGains = refl
same-rejection RejectionOf.BadScore = refl
same-rejection RejectionOf.BadSigma2 = refl
same-rejection RejectionOf.NotFinite = refl
same-rejection RejectionOf.BadCalendar = refl
same-rejection RejectionOf.NoCheckpoint = refl

-- and is above 0, and at most 21
pub positive : (r : Rejection) → 0 < number r
positive RejectionOf.InputTooLong = omega arith
positive RejectionOf.UnknownCommand = omega arith
positive RejectionOf.OutOfPlace = omega arith
positive RejectionOf.Truncated = omega arith
positive RejectionOf.BadModel = omega arith
positive RejectionOf.BadPeriod = omega arith
positive RejectionOf.BadParameter = omega arith
positive RejectionOf.WrongIndex = omega arith
positive RejectionOf.BadValue = omega arith
positive RejectionOf.BadPosition = omega arith
positive RejectionOf.BadHorizon = omega arith
positive RejectionOf.ShortBuffer = omega arith
positive RejectionOf.BadReading = omega arith
positive RejectionOf.CountFull = omega arith
positive RejectionOf.LeavesRange = omega arith
positive RejectionOf.UnusualGains = omega arith
positive RejectionOf.BadScore = omega arith
positive RejectionOf.BadSigma2 = omega arith
positive RejectionOf.NotFinite = omega arith
positive RejectionOf.BadCalendar = omega arith
positive RejectionOf.NoCheckpoint = omega arith

-- a rejection's number is not 0
pub rejected-by : {A : Type 0} (n : ℕ) (v : A) → gives (suc n) v ≡ Err (rejection_of (suc n))
rejected-by n v = rw (eqb-suc-zero n)

same-error : {A B : Type 0} {x y : Rejection} → ◌≡◌ {A = Result A Rejection} (Err x) (Err y) → ◌≡◌ {A = Result B Rejection} (Err x) (Err y)
same-error {A} {B} {x} {y} z = let q : x ≡ y = cc in rw q

-- a check that rejects ends the checks, and one that does not leaves it to the later ones
pub check-ends : {A : Type 0} (n k : ℕ) (v : A) {r : Result A Rejection} {e : Rejection} → Err e ≡ outcome n → IsErrAnd r (λ y. y ≡ e) → r ≡ gives (n then k) v
check-ends {A} n k v {r} {e} q h = let p = err_from_is_err_and r h in p.1 ∙ ap Err p.2 ∙ go n q
  where
    go : (n : ℕ) → Err e ≡ outcome n → ◌≡◌ {A = Result A Rejection} (Err e) (gives (n then k) v)
    go zero q = absurd (true≢false (sym (ap is_ok q)))
    go (suc n) q = rw (eqb-suc-zero n) (same-error (q ∙ rejected-by n tt) ∙ sym (rejected-by n v))

pub check-passes : (n : ℕ) {t : ⊤} → Ok t ≡ outcome n → n ≡ 0
check-passes zero e = refl
check-passes (suc n) {t} e = absurd (true≢false (ap is_ok (e ∙ rejected-by n tt)))

-- the answer of a refusal's number is that refusal
pub number-code : {A : Type 0} (r : Rejection) (v : A) → gives (number r) v ≡ Err r
number-code {A} r v = go (number r) refl (positive r)
  where
    go : (n : ℕ) → number r ≡ n → 0 < n → gives n v ≡ Err r
    go zero q h = absurd (omega arith)
    go (suc n) q h = rejected-by n v ∙ ap Err (ap rejection_of (sym q) ∙ same-rejection r)

-- ---- the number that an answer was made of, of a refusal's number or 0
pub numbered : (n : ℕ) → 0 < n → IsCode n → number (rejection_of n) ≡ n
unfolding rejection_of
numbered zero h l = absurd (omega arith)
numbered (suc zero) h l = refl
numbered (suc (suc zero)) h l = refl
numbered (suc (suc (suc zero))) h l = refl
numbered (suc (suc (suc (suc zero)))) h l = refl
numbered (suc (suc (suc (suc (suc zero))))) h l = refl
numbered (suc (suc (suc (suc (suc (suc zero)))))) h l = refl
numbered (suc (suc (suc (suc (suc (suc (suc zero))))))) h l = refl
numbered (suc (suc (suc (suc (suc (suc (suc (suc zero)))))))) h l = refl
numbered (suc (suc (suc (suc (suc (suc (suc (suc (suc zero))))))))) h l = refl
numbered (suc (suc (suc (suc (suc (suc (suc (suc (suc (suc zero)))))))))) h l = refl
numbered (suc (suc (suc (suc (suc (suc (suc (suc (suc (suc (suc zero))))))))))) h l = refl
numbered (suc (suc (suc (suc (suc (suc (suc (suc (suc (suc (suc (suc zero)))))))))))) h l = refl
numbered (suc (suc (suc (suc (suc (suc (suc (suc (suc (suc (suc (suc (suc zero))))))))))))) h l = refl
numbered (suc (suc (suc (suc (suc (suc (suc (suc (suc (suc (suc (suc (suc (suc zero)))))))))))))) h l = refl
numbered (suc (suc (suc (suc (suc (suc (suc (suc (suc (suc (suc (suc (suc (suc (suc zero))))))))))))))) h l = refl
numbered (suc (suc (suc (suc (suc (suc (suc (suc (suc (suc (suc (suc (suc (suc (suc (suc zero)))))))))))))))) h l = refl
numbered (suc (suc (suc (suc (suc (suc (suc (suc (suc (suc (suc (suc (suc (suc (suc (suc (suc zero))))))))))))))))) h l = refl
numbered (suc (suc (suc (suc (suc (suc (suc (suc (suc (suc (suc (suc (suc (suc (suc (suc (suc (suc zero)))))))))))))))))) h l = refl
numbered (suc (suc (suc (suc (suc (suc (suc (suc (suc (suc (suc (suc (suc (suc (suc (suc (suc (suc (suc zero))))))))))))))))))) h l = refl
numbered (suc (suc (suc (suc (suc (suc (suc (suc (suc (suc (suc (suc (suc (suc (suc (suc (suc (suc (suc (suc zero)))))))))))))))))))) h l = refl
numbered (suc (suc (suc (suc (suc (suc (suc (suc (suc (suc (suc (suc (suc (suc (suc (suc (suc (suc (suc (suc (suc zero))))))))))))))))))))) h l = refl
numbered (suc (suc (suc (suc (suc (suc (suc (suc (suc (suc (suc (suc (suc (suc (suc (suc (suc (suc (suc (suc (suc (suc n)))))))))))))))))))))) h l = absurd (omega arith)

pub code-of : {A : Type 0} (n : ℕ) (v : A) → IsCode n → code_in (gives n v) ≡ n
code-of zero v l = refl
code-of (suc n) v l = rw (eqb-suc-zero n) (numbered (suc n) (omega arith) l)

pub outcome-code : (n : ℕ) → IsCode n → outcome_code (outcome n) ≡ n
outcome-code n l = code-of n tt l

pub answer-code : (n : ℕ) (v : ℤ) → IsCode n → answer_code (answer n v) ≡ n
answer-code n v l = code-of n v l

pub code-unless : (t : Bool) (n : ℕ) → IsCode n → IsCode (unless t n)
code-unless true n l = omega arith
code-unless false n l = l

pub code-then : (n k : ℕ) → IsCode n → IsCode k → IsCode (n then k)
code-then zero k a b = b
code-then (suc n) k a b = rw (eqb-suc-zero n) a

pub code-number : (r : Rejection) → IsCode (number r)
code-number RejectionOf.InputTooLong = omega arith
code-number RejectionOf.UnknownCommand = omega arith
code-number RejectionOf.OutOfPlace = omega arith
code-number RejectionOf.Truncated = omega arith
code-number RejectionOf.BadModel = omega arith
code-number RejectionOf.BadPeriod = omega arith
code-number RejectionOf.BadParameter = omega arith
code-number RejectionOf.WrongIndex = omega arith
code-number RejectionOf.BadValue = omega arith
code-number RejectionOf.BadPosition = omega arith
code-number RejectionOf.BadHorizon = omega arith
code-number RejectionOf.ShortBuffer = omega arith
code-number RejectionOf.BadReading = omega arith
code-number RejectionOf.CountFull = omega arith
code-number RejectionOf.LeavesRange = omega arith
code-number RejectionOf.UnusualGains = omega arith
code-number RejectionOf.BadScore = omega arith
code-number RejectionOf.BadSigma2 = omega arith
code-number RejectionOf.NotFinite = omega arith
code-number RejectionOf.BadCalendar = omega arith
code-number RejectionOf.NoCheckpoint = omega arith

-- ---- what an answer tells of the rejection and the number that it was made of
pub given-accepted : {A : Type 0} (k : ℕ) (v e : A) → gives k v ≡ Ok e → (k ≡ 0) × (v ≡ e)
given-accepted zero v e q = (refl, ok-is q)
  where
    ok-is : {A : Type 0} {x y : A} → ◌≡◌ {A = Result A Rejection} (Ok x) (Ok y) → x ≡ y
    ok-is z = cc
given-accepted (suc k) v e q = absurd (true≢false (sym (ap is_ok (sym (rejected-by k v) ∙ q))))

pub given-rejected : {A : Type 0} (k : ℕ) (v : A) (r : Rejection) → gives k v ≡ Err r → (rejection_of k ≡ r) × (k ≡ 0 → ⊥)
given-rejected zero v r q = absurd (true≢false (ap is_ok q))
given-rejected (suc k) v r q = (err-is (sym (rejected-by k v) ∙ q), λ z. omega arith)
  where
    err-is : {A : Type 0} {x y : Rejection} → ◌≡◌ {A = Result A Rejection} (Err x) (Err y) → x ≡ y
    err-is z = cc

pub outcome-accepted : (n : ℕ) → outcome n ≡ Ok tt → n ≡ 0
outcome-accepted n e = (given-accepted n tt tt e).0

pub answer-accepted : (k : ℕ) (v e : ℤ) → answer k v ≡ Ok e → (k ≡ 0) × (v ≡ e)
answer-accepted k v e q = given-accepted k v e q

pub answer-rejected : (k : ℕ) (v : ℤ) (r : Rejection) → answer k v ≡ Err r → (rejection_of k ≡ r) × (k ≡ 0 → ⊥)
answer-rejected k v r q = given-rejected k v r q

-- what a call gives where nothing rejects it, and where something does
pub given : {A : Type 0} {n : ℕ} (v : A) → n ≡ 0 → gives n v ≡ Ok v
given v e = rw e

pub rejected : {A : Type 0} {n : ℕ} (v : A) → (n ≡ 0 → ⊥) → gives n v ≡ Err (rejection_of n)
rejected {n = n} v h = rw (ne_eqb n 0 h)

-- ---- a call whose check rejects: the check's number is not 0, the answer is its refusal, and what a rejected call leaves as found is left
pub refuses : {n : ℕ} {e : Rejection} → Err e ≡ outcome n → n ≡ 0 → ⊥
refuses q z = absurd (true≢false (sym (ap is_ok (q ∙ given tt z))))

pub check-rejects : {A : Type 0} (n : ℕ) (v : A) {r : Result A Rejection} {e : Rejection} → Err e ≡ outcome n → IsErrAnd r (λ y. y ≡ e) → r ≡ gives n v
check-rejects n v {r} q h = check-ends n 0 v q h ∙ ap (λ (k : ℕ). gives k v) (then-none n)

pub check-keeps : {A : Type 0} (n : ℕ) (x y : A) {e : Rejection} → Err e ≡ outcome n → y ≡ accepting n x (λ _. y)
check-keeps n x y q = rw (ne_eqb n 0 (refuses q))

pub check-keeps-then : {A : Type 0} (n k : ℕ) (x y : A) {e : Rejection} → Err e ≡ outcome n → y ≡ accepting (n then k) x (λ _. y)
check-keeps-then n k x y q = let h = refuses q in rw (then-first n k h, ne_eqb n 0 h)

-- the test of an answer
pub ok-given : {A : Type 0} (n : ℕ) (v : A) → is_ok (gives n v) ≡ true → n ≡ 0
ok-given zero v e = refl
ok-given (suc n) v e = absurd (true≢false (sym e ∙ ap is_ok (rejected-by n v)))

pub not-ok-given : {A : Type 0} (n : ℕ) (v : A) → is_ok (gives n v) ≡ false → n ≡ 0 → ⊥
not-ok-given zero v e z = true≢false e
not-ok-given (suc n) v e z = omega arith

-- a check that rejects ends the call that it is in
pub call-ends : {A : Type 0} (n : ℕ) (a : Result A Rejection) {r : Result A Rejection} {e : Rejection} → Err e ≡ outcome n → IsErrAnd r (λ y. y ≡ e) → r ≡ accepting n a rejects
call-ends {A} n a {r} {e} q h = let p = err_from_is_err_and r h in p.1 ∙ ap Err p.2 ∙ go n q
  where
    go : (n : ℕ) → Err e ≡ outcome n → ◌≡◌ {A = Result A Rejection} (Err e) (accepting n a rejects)
    go zero q = absurd (true≢false (sym (ap is_ok q)))
    go (suc n) q = rw (eqb-suc-zero n) (same-error (q ∙ rejected-by n tt))

-- a call that rejects, by its number alone
pub as-outcome : {A : Type 0} (n : ℕ) (v : A) {e : Rejection} → Err e ≡ gives n v → Err e ≡ outcome n
as-outcome zero v q = absurd (true≢false (sym (ap is_ok q)))
as-outcome (suc n) v q = same-error (q ∙ rejected-by n v) ∙ sym (rejected-by n tt)

-- the value counts where nothing rejects
pub given-same : {A : Type 0} (n : ℕ) (v w : A) → (n ≡ 0 → v ≡ w) → gives n v ≡ gives n w
given-same zero v w f = ap Ok (f refl)
given-same (suc n) v w f = rejected-by n v ∙ sym (rejected-by n w)
