use borrow.Author.Rules.{rules}
use Rattle.forecasting.proofs.display_forecasts.Goals as goal

pub forecasts_to-requires : goal.forecasts_to-requires
forecasts_to-requires c = search rules

pub shape_of-values : goal.shape_of-values
shape_of-values c = search rules

pub returns : goal.returns
returns c = search rules
