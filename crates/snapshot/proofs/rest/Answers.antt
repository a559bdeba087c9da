-- `snapshot::rest` meets its contract.
use native.Mathlib.Omega.{arith}
use borrow.Author.Tests.{ne_eqb}
use Rattle.snapshot.specs.Snapshots.{scan, rest_of}
use Rattle.snapshot.proofs.ByteLaws.{rest}
use Rattle.snapshot.proofs.OffsetLaws.{offsets}
use Rattle.snapshot.proofs.Stops.{ended, stopped}
use Rattle.snapshot.proofs.rest.Goals as goal

pub slice_bounds-result-count : goal.slice_bounds-result-count
slice_bounds-result-count c =
    omega (arith, (ended (scan c.args.stream.now) c.in-Ok.ensures).1, (offsets c.args.stream.now).within)

pub slice_bounds-result-start : goal.slice_bounds-result-start
slice_bounds-result-start c = slice_bounds-result-count c

pub slice_bounds-result-count-in-Err : goal.slice_bounds-result-count-in-Err
slice_bounds-result-count-in-Err c =
    omega (arith, (stopped (scan c.args.stream.now) c.in-Err.ensures).2, (offsets c.args.stream.now).within)

pub slice_bounds-result-start-in-Err : goal.slice_bounds-result-start-in-Err
slice_bounds-result-start-in-Err c = slice_bounds-result-count-in-Err c

pub returns-in-Ok-clause-part : goal.returns-in-Ok-clause-part
unfolding rest_of
returns-in-Ok-clause-part c =
    rw (ended (scan c.args.stream.now) c.in-Ok.ensures).1 (rest c.args.stream.now c.in-Ok.end)

pub returns-in-Err-clause-part : goal.returns-in-Err-clause-part
unfolding rest_of
returns-in-Err-clause-part c =
    rw (← (stopped (scan c.args.stream.now) c.in-Err.ensures).2) (rest c.args.stream.now c.in-Err.stopped.offset)

pub returns-in-Ok-clause-rejection : goal.returns-in-Ok-clause-rejection
returns-in-Ok-clause-rejection c = rw (ended (scan c.args.stream.now) c.in-Ok.ensures).0

pub returns-in-Err-clause-rejection : goal.returns-in-Err-clause-rejection
returns-in-Err-clause-rejection c =
    let p = stopped (scan c.args.stream.now) c.in-Err.ensures in
    rw (ne_eqb _ _ p.0, p.1)
