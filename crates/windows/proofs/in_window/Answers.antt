use borrow.Author.Tests.{lt-ltb, le-ltb}
use Rattle.windows.proofs.in_window.Goals as goal

pub returns-then-start-end : goal.returns-then-start-end
returns-then-start-end c = rw (lt-ltb _ _ c.if-start-end.true)

pub returns : goal.returns
returns c = rw (le-ltb _ _ c.if-start-end.false)
