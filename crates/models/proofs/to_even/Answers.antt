use Rattle.models.proofs.ModelLaws.{even-law}
use borrow.Author.Rules.{rules}
use Rattle.models.proofs.to_even.Goals as goal

pub returns : goal.returns
returns c = even-law c.args.model (search rules)
