use Rattle.std.proofs.Common.{rules, tests}
use Rattle.saving.specs.Saving.{snapshot_written}
use Rattle.saving.proofs.rewriting.rewrite_snapshot.Goals as goal

pub returns-then-s-size_of : goal.returns-then-s-size_of
unfolding snapshot_written
returns-then-s-size_of c = search (tests, rules)

pub returns-else-s-size_of : goal.returns-else-s-size_of
unfolding snapshot_written
returns-else-s-size_of c = search (tests, rules)
