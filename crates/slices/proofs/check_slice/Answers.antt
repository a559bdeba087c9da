-- `slices::check_slice` meets its contract: the snapshot's own rejection, else what stands after it.
use native.Mathlib.Omega.{arith}
use Rattle.std.specs.Prelude.{⊤}
use Rattle.state.proofs.Answers.{rejected}
use Rattle.state.proofs.Tests.{then-first}
use Rattle.snapshot.specs.Snapshots.{scan}
use Rattle.snapshot.proofs.OffsetLaws.{offsets}
use Rattle.snapshot.proofs.Stops.{ended, stopped}
use Rattle.slices.specs.Slices.{in_place_code}
use Rattle.slices.proofs.check_slice.Goals as goal

pub overflow_sub-left : goal.overflow_sub-left
overflow_sub-left c =
    omega (arith, (ended (scan c.args.snapshot.now) c.in-Ok.ensures).1, (offsets c.args.snapshot.now).within)

pub returns-in-Ok : goal.returns-in-Ok
unfolding in_place_code
returns-in-Ok c =
    let p = ended (scan c.args.snapshot.now) c.in-Ok.ensures in
    rw (p.0, p.1) (rw (c.spare.ensures, c.is_scored.ensures) at c.unless.ensures)

pub returns-in-Err : goal.returns-in-Err
unfolding in_place_code
returns-in-Err c =
    let p = stopped (scan c.args.snapshot.now) c.in-Err.ensures in
    rw (then-first _ _ p.0, p.1, rejected {A = ⊤} tt p.0)
