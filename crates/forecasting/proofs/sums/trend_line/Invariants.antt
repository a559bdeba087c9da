-- After j turns d is the j-th trend and line the level with the trends before.
use mathlib.Core.Path.{◌≡◌}
use Rattle.forecasts.specs.Forecasts.{trend_at, trend_line}
use Rattle.forecasting.proofs.sums.trend_line.Given as goal

abbrev pub invariant-loop-j : goal.invariant-loop-j
invariant-loop-j l = (l.d ≡ trend_at l.fn.even l.fn.phi l.fn.trend l.j) × (l.line ≡ trend_line l.fn.even l.fn.level l.fn.phi l.fn.trend l.j)
