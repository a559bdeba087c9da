use Rattle.state.proofs.Tests.{sentinel-bits}
use Rattle.ranges.proofs.is_sentinel.Goals as goal

pub returns : goal.returns
returns c = sentinel-bits c.args.y c.ranges.y
