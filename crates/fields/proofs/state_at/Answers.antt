use Rattle.std.proofs.Common.{rules}
use Rattle.fields.specs.Fields.{decoded}
use Rattle.fields.proofs.state_at.Goals as goal

pub returns : goal.returns
unfolding decoded
returns c = search rules
