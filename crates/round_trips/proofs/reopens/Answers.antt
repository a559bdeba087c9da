use Rattle.round_trips.proofs.RoundTrip.{reopens}
use Rattle.round_trips.proofs.reopens.Goals as goal

pub returns : goal.returns
returns c = reopens
