use Rattle.std.proofs.Common.{rules, tests}
use Rattle.saving.specs.Encoding.{position_bytes}
use Rattle.saving.proofs.writing.write_position.Goals as goal

pub returns : goal.returns
unfolding position_bytes
returns c = search (tests, rules)
