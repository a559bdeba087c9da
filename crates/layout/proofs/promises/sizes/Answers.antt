use native.Mathlib.Omega.{arith}
use Rattle.layout.proofs.promises.sizes.Goals as goal

pub returns : goal.returns
returns c m = record { saved = omega arith; old = omega arith }
