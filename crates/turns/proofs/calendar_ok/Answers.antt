use borrow.Author.Tests.{ne_eqb}
use Rattle.turns.proofs.calendar_ok.Goals as goal

pub returns-then-period-eq24 : goal.returns-then-period-eq24
returns-then-period-eq24 c = rw c.if-period-eq24.true c.lists_ok.ensures

pub returns : goal.returns
returns c = rw (ne_eqb _ 24 c.if-period-eq24.false)
