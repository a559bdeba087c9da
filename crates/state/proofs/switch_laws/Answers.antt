use Rattle.state.proofs.Switches.{switch-law}
use Rattle.state.proofs.switch_laws.Goals as goal

pub returns : goal.returns
returns c = switch-law
