use Rattle.drift_runs.proofs.ComputedRuns.{wander}
use Rattle.drift_runs.proofs.clock_runs.Goals as goal

pub returns : goal.returns
returns c = wander
