-- `slices::read` meets its contract.
use mathlib.Core.Path.{sym, ◌∙◌}
use borrow.Author.Tests.{ne_eqb}
use Rattle.std.specs.Prelude.{⊤}
use Rattle.state.proofs.Answers.{ok-given, not-ok-given}
use Rattle.slices.specs.Slices.{in_place_code, in_place_read}
use Rattle.slices.proofs.read.Goals as goal

pub returns-then-is_ok : goal.returns-then-is_ok
unfolding in_place_read
returns-then-is_ok c =
    let z = ok-given {A = ⊤} (in_place_code c.args.snapshot.now) tt (rw c.check_slice-outcome.ensures at (sym c.is_ok.ensures.value ∙ c.if-is_ok.true)) in
    rw (c.state_at-state.ensures, c.check_slice-outcome.ensures, z)

pub returns-else-is_ok : goal.returns-else-is_ok
unfolding in_place_read
returns-else-is_ok c =
    let z = not-ok-given {A = ⊤} (in_place_code c.args.snapshot.now) tt (rw c.check_slice-outcome.ensures at (sym c.is_ok.ensures.value ∙ c.if-is_ok.false)) in
    rw (c.no_state-state.ensures, c.check_slice-outcome.ensures, ne_eqb _ _ z)
