use borrow.Author.Rules.{rules}
use Rattle.ranges.proofs.in_range.Goals as goal

pub overflow_sub-result : goal.overflow_sub-result
overflow_sub-result c = search rules

pub returns : goal.returns
returns c = search rules
