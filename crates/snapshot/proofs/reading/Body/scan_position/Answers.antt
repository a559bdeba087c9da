-- `snapshot::reading::Body::scan_position` meets its contract.
use native.Mathlib.Omega.{arith}
use Rattle.layout.proofs.Sizes.{at-fits}
use Rattle.snapshot.proofs.Stops.{walk-ends, walk-goes-on}
use Rattle.snapshot.proofs.reading.Body.scan_position.Goals as goal

pub returns-in_err-stopped_at : goal.returns-in_err-stopped_at
returns-in_err-stopped_at c =
    rw (← c.args.self.told, ← c.season_at-at.ensures)
    (walk-ends _ _ _ (rw c.check_position.ensures at c.in_err-stopped_at.ensures) c.from_residual.ensures.1)

pub overflow_add-result : goal.overflow_add-result
overflow_add-result c =
    at-fits c.args.self.scored c.args.m 10 c.season_at-at.ensures c.ranges.m.fits (omega arith)

pub returns : goal.returns
returns c =
    let q = walk-goes-on _ _ (rw c.check_position.ensures at c.in_ok-stopped_at.ensures) in
    rw (← c.args.self.told, c.season_at-at.ensures, q)
