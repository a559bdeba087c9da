use Rattle.damped.proofs.Damped.{one-step-forecasts}
use Rattle.damped.proofs.one_step_forecasts.Goals as goal

pub returns : goal.returns
returns c = one-step-forecasts
