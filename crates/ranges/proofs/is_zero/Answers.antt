use mir.Syntax.{w64}
use Rattle.state.proofs.Tests.{zero_bits}
use Rattle.ranges.proofs.is_zero.Goals as goal

pub returns : goal.returns
returns c = zero_bits w64 c.args.v c.ranges.v
