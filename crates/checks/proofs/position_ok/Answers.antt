use Rattle.checks.proofs.position_ok.Goals as goal

pub returns : goal.returns
returns c = rw (c.count_ok.ensures, c.index_ok.ensures)
