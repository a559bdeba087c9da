-- `slices::state_value` meets its contract: each return goes by the tests that led there.
use Prim.Native.Nat.{ℕ}
use mathlib.Core.Path.{◌≡◌, refl, ap₂}
use mathlib.Core.Bool.{Bool, true, false, ◌&&◌}
use native.Mathlib.Omega.{arith}
use lib.ListN.{length}
use borrow.Author.Tests.{le-leb, lt-leb}
use Rattle.layout.specs.Layout.{end_at, scored_in, period_in}
use Rattle.layout.proofs.Sizes.{at-fits}
use Rattle.slices.specs.Slices.{state_value}
use Rattle.slices.proofs.state_value.Goals.{After-season_at}
use Rattle.slices.proofs.state_value.Goals as goal

off : (b : Bool) → (b && false) ≡ false
off true = refl
off false = refl

-- where the snapshot ends, by the byte and the test of command 15 that were read
end_is : (c : After-season_at) → let d = c.args.snapshot.now in end_at c.is_scored-scored.result c.byte_at-m.result ≡ end_at (scored_in d) (period_in d)
end_is c = ap₂ (λ (t : Bool) (m : ℕ). end_at t m) c.is_scored-scored.ensures c.byte_at-m.ensures

pub returns-then-m-gt-MAX_PERIOD : goal.returns-then-m-gt-MAX_PERIOD
unfolding state_value
returns-then-m-gt-MAX_PERIOD c = rw (lt-leb _ _ (rw c.byte_at-m.ensures at c.if-m-gt-MAX_PERIOD.true)) c.no_state.ensures

pub overflow_add-season_at : goal.overflow_add-season_at
overflow_add-season_at c =
    at-fits c.is_scored-scored.result c.byte_at-m.result 10 c.season_at.ensures c.byte_at-m.type_inv (omega arith)

pub returns-then-snapshot-season_at : goal.returns-then-snapshot-season_at
unfolding state_value
returns-then-snapshot-season_at c =
    let x = (goal.at.returns-then-snapshot-season_at c).After-season_at in
    let d = c.args.snapshot.now in
    rw (lt-leb (end_at (scored_in d) (period_in d)) (length d) (rw (← (end_is x)) (omega (arith, c.season_at.ensures, c.if-snapshot-season_at.true))), off _) c.no_state-then-snapshot-season_at.ensures

pub returns : goal.returns
unfolding state_value
returns c =
    let x = (goal.at.returns c).After-season_at in
    let d = c.args.snapshot.now in
    rw (le-leb (period_in d) 48 (rw c.byte_at-m.ensures at c.if-m-gt-MAX_PERIOD.false), le-leb (end_at (scored_in d) (period_in d)) (length d) (rw (← (end_is x)) (omega (arith, c.season_at.ensures, c.if-snapshot-season_at.false)))) c.state_at.ensures
