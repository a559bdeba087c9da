use Rattle.round_trips.proofs.RoundTrip.{saves-read}
use Rattle.round_trips.proofs.saves_read.Goals as goal

pub returns : goal.returns
returns c = saves-read
