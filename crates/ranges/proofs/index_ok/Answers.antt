use borrow.Author.Rules.{rules}
use Rattle.ranges.proofs.index_ok.Goals as goal

pub pick-requires : goal.pick-requires
pick-requires c = search rules

pub returns : goal.returns
returns c = search rules
