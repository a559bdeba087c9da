use Rattle.traces.proofs.Scores.{score-laws}
use Rattle.traces.proofs.score_laws.Goals as goal

pub returns : goal.returns
returns c = score-laws
