-- `snapshot::reading::due` meets its contract: each return goes by the tests that led there.
use Prim.Native.Nat.{ℕ, ◌<◌}
use mathlib.Core.Path.{◌≡◌, refl, sym, ap, ◌∙◌}
use mathlib.Core.Bool.{Bool, true, false, true≢false, not}
use mathlib.Core.List.{List}
use lib.ListN.{length, get_or}
use borrow.Author.Tests.{lt-ltb, le-ltb, eq-eqb, ne_eqb}
use Rattle.std.specs.Prelude.{Ok, is_ok}
use Rattle.state.specs.Rejections.{unless, ◌then◌, outcome, unknown_command, out_of_place, rejection_of}
use Rattle.state.proofs.Answers.{check-ends, check-passes, given-accepted}
use Rattle.layout.specs.CommandTable.{is_command, command_size, command_length}
use Rattle.snapshot.specs.Snapshots.{due_code}
use Rattle.snapshot.proofs.reading.due.Goals as goal

-- the code of another byte than the one that is due
other : (s : List ℕ) (at first : ℕ) → at < length s → (get_or s at 0 ≡ first → ⊥) → (unless (not (is_command (get_or s at 0))) out_of_place then unknown_command) ≡ due_code s at first
unfolding due_code
other s at first l n = rw (lt-ltb at (length s) l, ne_eqb _ _ n) (go (is_command (get_or s at 0)))
  where
    go : (t : Bool) → (unless (not t) out_of_place then unknown_command) ≡ (unless t unknown_command then out_of_place)
    go true = refl
    go false = refl

-- the length of a command
known-length : (b : ℕ) {n : ℕ} → is_command b ≡ true → Ok n ≡ command_length b → command_size b ≡ n
unfolding command_length
known-length b {n} t e = (given-accepted 0 (command_size b) n (sym (rw t at e))).1

pub returns-then-s-at : goal.returns-then-s-at
unfolding due_code rejection_of
returns-then-s-at c = rw (le-ltb _ _ c.if-s-at.true)

pub returns-in_err-unless : goal.returns-in_err-unless
returns-in_err-unless c =
    check-ends _ unknown_command tt (rw c.is_command.ensures at c.in_err-unless.ensures) c.from_residual.ensures.1
    ∙ ap outcome (other c.args.s.now c.args.at c.args.first c.if-s-at.false c.if-b-first.true)

pub returns-then-b-first : goal.returns-then-b-first
unfolding rejection_of
returns-then-b-first c =
    let p = check-passes _ (rw c.is_command.ensures at c.in_ok-unless.ensures) in
    ap outcome (rw p at (other c.args.s.now c.args.at c.args.first c.if-s-at.false c.if-b-first.true))

pub returns-in_err-length : goal.returns-in_err-length
unfolding command_length
returns-in_err-length c = absurd (true≢false (sym (ap is_ok (rw c.requires at c.in_err-length.ensures))))

pub returns : goal.returns
unfolding due_code
returns c =
    rw (lt-ltb _ _ c.if-s-at.false, c.if-b-first.false, c.requires, eq-eqb _ _ refl, known-length c.args.first c.requires c.in_ok-length.ensures) c.unless-2.ensures
