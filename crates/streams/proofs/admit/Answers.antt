-- `streams::admit` meets its contract.
use Rattle.streams.specs.Stream.{admit}
use Rattle.streams.proofs.admit.Goals as goal

pub returns : goal.returns
unfolding admit
returns c = c.unless.ensures
