-- `snapshot::read` meets its contract.
use borrow.Author.Tests.{ne_eqb}
use Rattle.snapshot.specs.Snapshots.{scan, read}
use Rattle.snapshot.proofs.Stops.{ended, stopped}
use Rattle.snapshot.proofs.read.Goals as goal

pub returns-in-Ok : goal.returns-in-Ok
unfolding read
returns-in-Ok c = rw (c.state_at.ensures, (ended (scan c.args.stream.now) c.in-Ok.ensures).0)

pub returns-in-Err : goal.returns-in-Err
unfolding read
returns-in-Err c =
    let p = stopped (scan c.args.stream.now) c.in-Err.ensures in
    rw (c.no_state.ensures, ne_eqb _ _ p.0, p.1)
