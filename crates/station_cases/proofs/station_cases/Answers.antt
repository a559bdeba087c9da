use mathlib.Core.Path.{refl}
use Rattle.station_cases.specs.Cases.{numbers, table}
use Rattle.station_cases.proofs.Theorem.{all-rows}
use Rattle.station_cases.proofs.station_cases.Goals as goal

pub returns : goal.returns
unfolding numbers table
returns c = record { rows = all-rows; cases = refl }
