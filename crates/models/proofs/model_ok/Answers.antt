use Rattle.models.proofs.ModelLaws.{model-law}
use borrow.Author.Rules.{rules}
use Rattle.models.proofs.model_ok.Goals as goal

pub returns : goal.returns
returns c = rw c.trend_of.ensures (model-law c.args.model (search rules))
