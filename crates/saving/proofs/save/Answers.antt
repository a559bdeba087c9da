-- `saving::save` meets its contract: the state is checked, then the room.
use Prim.Native.Nat.{ℕ}
use mathlib.Core.Path.{◌≡◌, refl, sym, ap, ◌∙◌}
use lib.Dec.{leb}
use lib.ListN.{length}
use borrow.Author.Tests.{ne_eqb, leb-true}
use Rattle.std.specs.Prelude.{⊤, Ok, Err}
use Rattle.std.proofs.lemmas.Result.{err_from_is_err_and}
use Rattle.state.specs.Rejections.{rejection_of, unless, short_buffer}
use Rattle.state.specs.States.{check}
use Rattle.state.specs.declared.Rejection.{Rejection}
use Rattle.state.specs.declared.State.{State}
use Rattle.state.proofs.Answers.{check-rejects, check-passes, refuses, rejected, given-accepted, given-rejected}
use Rattle.state.proofs.Passing.{bounded}
use Rattle.state.proofs.Tests.{then-first, unless-zero}
use Rattle.layout.specs.Layout.{size_of}
use Rattle.saving.specs.Saving.{bytes_needed, save, save_code, saved_bytes}
use Rattle.saving.proofs.save.Goals as goal

-- what the bytes that are needed tell of the state's check
refused : (s : State) {e : Rejection} → Err e ≡ bytes_needed s → (rejection_of (check s) ≡ e) × (check s ≡ 0 → ⊥)
unfolding bytes_needed
refused s {e} q = given-rejected (check s) (size_of s.period) e (sym q)

needed : (s : State) {n : ℕ} → Ok n ≡ bytes_needed s → (check s ≡ 0) × (size_of s.period ≡ n)
unfolding bytes_needed
needed s {n} q = given-accepted (check s) (size_of s.period) n (sym q)

pub returns-in_err-size-clause-answer : goal.returns-in_err-size-clause-answer
unfolding save save_code
returns-in_err-size-clause-answer c =
    let g = refused c.args.s c.in_err-size.ensures in
    let p = err_from_is_err_and _ c.from_residual.ensures.1 in
    rw (then-first _ (unless (leb (size_of c.args.s.period) (length c.args.buffer.now)) short_buffer) g.1) (p.1 ∙ ap Err (p.2 ∙ sym g.0) ∙ sym (rejected {A = ⊤} tt g.1))

pub returns-in_err-size-clause-bytes : goal.returns-in_err-size-clause-bytes
unfolding save_code saved_bytes
returns-in_err-size-clause-bytes c =
    let g = refused c.args.s c.in_err-size.ensures in
    rw (then-first _ (unless (leb (size_of c.args.s.period) (length c.args.buffer.now)) short_buffer) g.1, ne_eqb _ _ g.1)

pub returns-in_err-unless-clause-answer : goal.returns-in_err-unless-clause-answer
unfolding save save_code
returns-in_err-unless-clause-answer c =
    let n = needed c.args.s c.in_ok-size.ensures in
    rw (n.0, n.1) (check-rejects _ tt c.in_err-unless.ensures c.from_residual-in_err-unless.ensures.1)

pub returns-in_err-unless-clause-bytes : goal.returns-in_err-unless-clause-bytes
unfolding save_code saved_bytes
returns-in_err-unless-clause-bytes c =
    let n = needed c.args.s c.in_ok-size.ensures in
    rw (n.0, n.1, ne_eqb _ _ (refuses c.in_err-unless.ensures))

pub write_snapshot-requires : goal.write_snapshot-requires
write_snapshot-requires c =
    let n = needed c.args.s c.in_ok-size.ensures in
    let p = check-passes _ c.in_ok-unless.ensures in
    ((bounded _ n.0).period, rw n.1 (leb-true _ _ (unless-zero _ _ p)))

pub returns : goal.returns
unfolding save save_code saved_bytes
returns c =
    let n = needed c.args.s c.in_ok-size.ensures in
    let p = check-passes _ c.in_ok-unless.ensures in
    rw (n.0, n.1, p) record { answer = refl; bytes = c.write_snapshot.ensures }
