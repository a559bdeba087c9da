use borrow.Author.Rules.{rules}
use Rattle.ranges.proofs.count_ok.Goals as goal

pub returns : goal.returns
returns c = search rules
