use borrow.Author.Tests.{lt-ltb, le-ltb}
use Rattle.calendars.specs.Turns.{next_index}
use Rattle.turns.proofs.next_index.Goals as goal

pub returns-then-next-m : goal.returns-then-next-m
unfolding next_index
returns-then-next-m c = rw (lt-ltb _ _ c.if-next-m.true)

pub returns-else-next-m : goal.returns-else-next-m
unfolding next_index
returns-else-next-m c = rw (le-ltb _ _ c.if-next-m.false)
