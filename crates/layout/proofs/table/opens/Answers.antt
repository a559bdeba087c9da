use mathlib.Core.Path.{refl}
use Rattle.layout.specs.CommandTable.{opens}
use Rattle.layout.proofs.table.opens.Goals as goal

pub returns : goal.returns
unfolding opens
returns c = refl
