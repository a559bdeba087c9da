use Rattle.streams.proofs.ByteLaws.{error-kinds}
use Rattle.streams.proofs.promises.error_kinds.Goals as goal

pub returns : goal.returns
returns c = error-kinds
