-- A command that is rejected ends the walk over a snapshot, and one that is not leaves it to what follows.
use Prim.Native.Nat.{ℕ, zero, suc}
use mathlib.Core.Path.{◌≡◌, refl, sym, ap, ◌∙◌}
use mathlib.Core.Bool.{true≢false}
use native.Mathlib.Omega.{arith}
use lib.Dec.{eqb-suc-zero}
use Rattle.std.specs.Prelude.{⊤, Result, Ok, Err, is_ok, IsErrAnd}
use Rattle.std.proofs.lemmas.Result.{err_from_is_err_and}
use Rattle.state.specs.Rejections.{outcome, rejection_of}
use Rattle.snapshot.specs.Snapshots.{Scanned, stopped_at, scanned, finished}
use Rattle.snapshot.specs.declared.reading.Stopped.{Stopped}

-- the answer of a rejected command
stopped-at : (at n : ℕ) → stopped_at at (outcome (suc n)) ≡ Err (record { rejection = rejection_of (suc n); offset = at })
stopped-at at n = rw (eqb-suc-zero n)

scanned-at : (at n : ℕ) → scanned (record { code = suc n; offset = at }) ≡ Err (record { rejection = rejection_of (suc n); offset = at })
scanned-at at n = rw (eqb-suc-zero n)

same-error : {A B E : Type 0} {x y : E} → ◌≡◌ {A = Result A E} (Err x) (Err y) → ◌≡◌ {A = Result B E} (Err x) (Err y)
same-error {A} {B} {E} {x} {y} z = let q : x ≡ y = cc in rw q

pub walk-ends : (at code : ℕ) (rest : Scanned) {r : Result ℕ Stopped} {e : Stopped} → Err e ≡ stopped_at at (outcome code) → IsErrAnd r (λ y. y ≡ e) → r ≡ scanned (finished at code rest)
walk-ends at code rest {r} {e} q h = let p = err_from_is_err_and r h in p.1 ∙ ap Err p.2 ∙ go code q
  where
    go : (n : ℕ) → Err e ≡ stopped_at at (outcome n) → Err e ≡ scanned (finished at n rest)
    go zero q = absurd (true≢false (sym (ap is_ok q)))
    go (suc n) q =
        let e : ◌≡◌ {A = Result ℕ Stopped} (Err e) (Err (record { rejection = rejection_of (suc n); offset = at })) = same-error (q ∙ stopped-at at n) in
        rw (eqb-suc-zero n) (e ∙ sym (scanned-at at n))

pub walk-goes-on : (at code : ℕ) {u : ⊤} → Ok u ≡ stopped_at at (outcome code) → code ≡ 0
walk-goes-on at zero q = refl
walk-goes-on at (suc n) q = absurd (true≢false (ap is_ok (q ∙ stopped-at at n)))

-- ---- what the walk's answer tells
pub ended : (r : Scanned) {n : ℕ} → Ok n ≡ scanned r → (r.code ≡ 0) × (r.offset ≡ n)
ended r {n} q = go r.code q
  where
    ok-is : {A E : Type 0} {x y : A} → ◌≡◌ {A = Result A E} (Ok x) (Ok y) → x ≡ y
    ok-is z = cc

    go : (k : ℕ) → Ok n ≡ scanned (record { code = k; offset = r.offset }) → (k ≡ 0) × (r.offset ≡ n)
    go zero q = (refl, sym (ok-is q))
    go (suc k) q = absurd (true≢false (ap is_ok (q ∙ scanned-at r.offset k)))

pub stopped : (r : Scanned) {x : Stopped} → Err x ≡ scanned r → (r.code ≡ 0 → ⊥) × (x.rejection ≡ rejection_of r.code) × (x.offset ≡ r.offset)
stopped r {x} q = go r.code q
  where
    err-is : {A E : Type 0} {x y : E} → ◌≡◌ {A = Result A E} (Err x) (Err y) → x ≡ y
    err-is z = cc

    go : (k : ℕ) → Err x ≡ scanned (record { code = k; offset = r.offset }) → (k ≡ 0 → ⊥) × (x.rejection ≡ rejection_of k) × (x.offset ≡ r.offset)
    go zero q = absurd (true≢false (sym (ap is_ok q)))
    go (suc k) q =
        let e = err-is (q ∙ scanned-at r.offset k) in
        (λ z. absurd (omega (arith, z)), ap (λ (s : Stopped). s.rejection) e, ap (λ (s : Stopped). s.offset) e)
