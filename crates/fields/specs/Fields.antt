-- Document 01, "Commands": what the operands of a snapshot (the paper's group) say, in bytes of any length. What stands after the end counts as 0.
use Rattle.std.specs.Prelude.{ℕ, zero, suc, List, ℤ, pos, set, replicate}
use Rattle.state.specs.declared.State.{State}
use Rattle.layout.specs.Layout.{outside_in, model_in, period_in, alpha_in, beta_in, gamma_in, phi_in, level_in, trend_in, score_in, season_in, index_in, count_in}

-- the season cells: the values of n places, 0 from there on
unfoldable pub cells_at : List ℕ → ℕ → List ℤ
cells_at s zero = replicate 48 (pos 0)
cells_at s (suc n) = set (cells_at s n) n (season_in s n)

-- the state that a snapshot holds
unfoldable pub decoded : List ℕ → State
decoded s =
    record {
      outside = outside_in s;
      model = model_in s;
      period = period_in s;
      alpha = alpha_in s;
      beta = beta_in s;
      gamma = gamma_in s;
      phi = phi_in s;
      level = level_in s;
      trend = trend_in s;
      seasonal = cells_at s (period_in s);
      index = index_in s (period_in s);
      count = count_in s (period_in s);
      score = score_in s;
    }
