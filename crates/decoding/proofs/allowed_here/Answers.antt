use Rattle.decoding.specs.Decoding.{allowed_here}
use Rattle.decoding.proofs.allowed_here.Goals as goal

pub returns : goal.returns
unfolding allowed_here
returns c = rw (c.opens.ensures, c.only_in_snapshot.ensures, c.errors_are.ensures)
