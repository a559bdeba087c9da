use Rattle.models.proofs.parameters_ok.Goals as goal

pub returns : goal.returns
returns c =
    let g = c in
    let b = g in
    rw (c.damping_ok.ensures, c.trend_of.ensures, g.gain_ok-2.ensures, g.has_season.ensures, b.gain_ok.ensures, b.has_trend.ensures)
