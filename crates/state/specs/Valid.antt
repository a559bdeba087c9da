-- What a state has that the checks let pass: the facts that private functions require.
use Rattle.std.specs.Prelude.{ℕ, ◌*◌, ◌<◌, ◌≤◌, ◌≡◌, true, false, pos, get_or}
use Rattle.integers.specs.Bounds.{Within}
use Rattle.state.specs.Fixed.{max_count, max_value, max_square}
use Rattle.state.specs.Scores.{sum_of}
use Rattle.models.specs.Models.{has_trend, has_season}
use Rattle.state.specs.declared.State.{State}

-- what the sums and products of a call rest on
pub record Bounded (s : State) : Type 0 where
  pub alpha : s.alpha ≤ 65536
  pub beta : s.beta ≤ 65536
  pub gamma : s.gamma ≤ 65536
  pub phi : s.phi ≤ 65536
  pub level : Within max_value s.level
  pub trend : Within max_value s.trend
  pub cells : (k : ℕ) → k < 48 → Within max_value (get_or s.seasonal k (pos 0))
  pub period : s.period ≤ 48
  pub index : s.index < 48
  pub count : s.count ≤ max_count
  pub readings : s.score.readings ≤ s.count
  pub sum : sum_of s.score ≤ s.score.readings * max_square

-- what a model does not have is 0
pub record NoTrend (s : State) : Type 0 where
  pub beta : s.beta ≡ 0
  pub phi : s.phi ≡ 0
  pub trend : s.trend ≡ pos 0

pub record NoSeason (s : State) : Type 0 where
  pub period : s.period ≡ 0
  pub gamma : s.gamma ≡ 0
  pub index : s.index ≡ 0
  pub cells : (k : ℕ) → k < 48 → get_or s.seasonal k (pos 0) ≡ pos 0

-- with a season the index is one of its places
pub record Seasonal (s : State) : Type 0 where
  pub least : 2 ≤ s.period
  pub index : s.index < s.period

pub record Valid (s : State) : Type 0 where
  pub bounded : Bounded s
  pub no_trend : has_trend s.model ≡ false → NoTrend s
  pub no_season : has_season s.model ≡ false → NoSeason s
  pub with_season : has_season s.model ≡ true → Seasonal s
