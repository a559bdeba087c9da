use Rattle.ranges.proofs.words_ok.Goals as goal

pub returns : goal.returns
returns c = rw c.sum_ok.ensures
