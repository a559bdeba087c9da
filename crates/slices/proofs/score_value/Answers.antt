-- `slices::score_value` meets its contract.
use mathlib.Core.Path.{sym, ◌∙◌}
use borrow.Author.Tests.{le-leb, lt-leb}
use Rattle.slices.specs.Slices.{score_value}
use Rattle.slices.proofs.score_value.Goals as goal

pub returns-then-snapshot : goal.returns-then-snapshot
unfolding score_value
returns-then-snapshot c = rw (lt-leb _ _ c.if-snapshot.true) c.no_score.ensures

pub returns-then-not-is_scored : goal.returns-then-not-is_scored
unfolding score_value
returns-then-not-is_scored c =
    rw (le-leb _ _ c.if-snapshot.false, sym c.is_scored.ensures ∙ c.if-not-is_scored.true) c.no_score-then-not-is_scored.ensures

pub returns : goal.returns
unfolding score_value
returns c =
    rw (le-leb _ _ c.if-snapshot.false, sym c.is_scored.ensures ∙ c.if-not-is_scored.false, c.read_u64-3.ensures, c.read_u64-2.ensures, c.read_u64.ensures)
