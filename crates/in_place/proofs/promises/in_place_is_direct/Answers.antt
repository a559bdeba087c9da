use Rattle.in_place.proofs.InPlaceLaws.{in-place-is-direct}
use Rattle.in_place.proofs.promises.in_place_is_direct.Goals as goal

pub returns : goal.returns
returns c = in-place-is-direct
