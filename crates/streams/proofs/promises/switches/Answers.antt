use Rattle.streams.proofs.ByteLaws.{switches}
use Rattle.streams.proofs.promises.switches.Goals as goal

pub returns : goal.returns
returns c = switches
