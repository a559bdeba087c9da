use Rattle.round_trips.proofs.RoundTrip.{reads-saved}
use Rattle.round_trips.proofs.reads_saved.Goals as goal

pub returns : goal.returns
returns c = reads-saved
