use Rattle.state.specs.Scores.{score_of}
use Rattle.ranges.proofs.ScoreCode.{words}
use Rattle.ranges.proofs.sum_ok.Goals as goal

pub returns : goal.returns
returns c = words (score_of c.args.readings c.args.high c.args.low) c.ranges.low.fits
