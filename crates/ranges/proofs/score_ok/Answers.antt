use Rattle.ranges.proofs.score_ok.Goals as goal

pub returns : goal.returns
returns c = rw c.words_ok.ensures
