-- `snapshot::reading::Body::scan_seasons` meets its contract: what is left to scan gives the whole.
use Prim.Native.Nat.{◌-◌, ◌≤◌}
use mathlib.Core.Path.{◌≡◌}
use Rattle.snapshot.specs.Snapshots.{scan_position, scan_seasons}
use Rattle.snapshot.proofs.reading.Body.scan_seasons.Given as goal

abbrev pub invariant-loop-k : goal.invariant-loop-k
invariant-loop-k l = (l.k ≤ l.m) × (scan_seasons l.self.bytes.now l.k (l.m - l.k) (scan_position l.self.bytes.now l.m) ≡ scan_seasons l.self.bytes.now 0 l.m (scan_position l.self.bytes.now l.m))

abbrev pub decreases-loop-k : goal.decreases-loop-k
decreases-loop-k l = l.m - l.k
