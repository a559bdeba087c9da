-- `snapshot::reading::Body::score_ok` meets its contract.
use mathlib.Core.Path.{sym, ◌∙◌}
use native.Mathlib.Omega.{arith}
use borrow.Author.Tests.{le-leb}
use Rattle.state.specs.Scores.{sum_of, sum_ok}
use Rattle.snapshot.proofs.reading.Body.score_ok.Goals as goal

pub returns-then-not-self : goal.returns-then-not-self
unfolding sum_of sum_ok
returns-then-not-self c = rw (sym c.args.self.told ∙ c.if-not-self.true, le-leb 0 c.args.count (omega arith))
