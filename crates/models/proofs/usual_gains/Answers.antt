-- `models::usual_gains` meets its contract: its two tests are the definition's.
use mathlib.Core.Path.{refl}
use Rattle.models.proofs.usual_gains.Goals as goal

pub returns : goal.returns
returns c = refl
