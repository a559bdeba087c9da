use Rattle.clock.proofs.CallLaws.{empty-lists, missing-forecasts}
use Rattle.clock.proofs.Maxima.{window-maxima}
use Rattle.clock.proofs.promises.calendar_laws.Goals as goal

pub returns : goal.returns
returns c = record { empty = empty-lists; gap = missing-forecasts; window = window-maxima }
