use Rattle.std.proofs.Common.{arith}
use Rattle.std.proofs.lemmas.Grind.{common_steps}
use Rattle.calendars.proofs.ListLaws.{seek-end, seek-stops, seek-goes}
use Rattle.calendars.proofs.seek.Goals as goal

pub returns-then-n-counts : goal.returns-then-n-counts
returns-then-n-counts c = grind (arith, seek-stops)

pub loop-k-preserved : goal.loop-k-preserved
loop-k-preserved c = grind (arith, seek-goes)

pub returns : goal.returns
returns c = grind (arith, common_steps, seek-end)
