-- Document 01, "Grains and states", and document 02, W-201 and W-204: what a state holds, and the checks 5, 6, 7, 16, 9, 10 and 17 of a state handed in directly.
use Rattle.std.specs.Prelude.{ℕ, ◌-◌, ◌<◌, ◌≡◌, Bool, false, cond, not, ◌&&◌, ◌||◌, List, [], ◌++◌, eqb, ltb, leb, ℤ, pos, get_or, length, replicate}
use Rattle.state.specs.Rejections.{unless, ◌then◌, bad_model, bad_period, bad_parameter, unusual_gains, bad_value, bad_position, bad_score}
use Rattle.state.specs.Fixed.{in_range, is_zero, max_count, word_size}
use Rattle.state.specs.Scores.{no_score, score_ok}
use Rattle.integers.specs.Below.{all_below}
use Rattle.models.specs.Models.{has_trend, valid_model, period_ok, parameters_ok, usual_gains}
use Rattle.state.specs.declared.Score.{Score}
use Rattle.state.specs.declared.State.{State}

-- a state by whether 18 opened it (else 10 did) and its numbers: model, m, A, B, G, F, l, b, the first season cells (the others are 0), p, count, score
abbrev pub state_of : Bool → ℕ → ℕ → ℕ → ℕ → ℕ → ℕ → ℤ → ℤ → List ℤ → ℕ → ℕ → Score → State
state_of outside model m A B G F l b cells p count score =
    record {
      outside = outside;
      model = model;
      period = m;
      alpha = A;
      beta = B;
      gamma = G;
      phi = F;
      level = l;
      trend = b;
      seasonal = cells ++ replicate (48 - length cells) (pos 0);
      index = p;
      count = count;
      score = score;
    }

-- the state with other values, place, count and score; nothing else of a state changes
abbrev pub moved : State → ℤ → ℤ → List ℤ → ℕ → ℕ → Score → State
moved s l b cells p count score =
    record {
      outside = s.outside;
      model = s.model;
      period = s.period;
      alpha = s.alpha;
      beta = s.beta;
      gamma = s.gamma;
      phi = s.phi;
      level = l;
      trend = b;
      seasonal = cells;
      index = p;
      count = count;
      score = score;
    }

-- the state with another model byte; all else is kept
abbrev pub with_model : ℕ → State → State
with_model model s =
    record {
      outside = s.outside;
      model = model;
      period = s.period;
      alpha = s.alpha;
      beta = s.beta;
      gamma = s.gamma;
      phi = s.phi;
      level = s.level;
      trend = s.trend;
      seasonal = s.seasonal;
      index = s.index;
      count = s.count;
      score = s.score;
    }

-- what the types of the code's state hold, beside its checks: 48 season cells, and a low word of 64 bits
pub record Typed (s : State) : Type 0 where
  pub cells : length s.seasonal ≡ 48
  pub low : s.score.low < word_size

-- no state: what stands in the place of one after a rejection. Its model byte is not valid, so every call rejects it
unfoldable pub no_state : State
no_state = state_of false 255 0 0 0 0 0 (pos 0) (pos 0) [] 0 0 no_score

-- the parameters of a state that 18 opened (outside) or 10: 7 where the model does not allow them, or 18 has gains inside the usual region; 16 where 10 has gains outside it
unfoldable pub parameters_code : Bool → ℕ → ℕ → ℕ → ℕ → ℕ → ℕ
parameters_code outside model A B G F =
    unless (parameters_ok model A B G F && not (outside && usual_gains A B G)) bad_parameter
    then unless (outside || usual_gains A B G) unusual_gains

-- b: in range, and 0 without trend
abbrev pub trend_ok : ℕ → ℤ → Bool
trend_ok model b = cond (has_trend model) (in_range b) (is_zero b)

-- cell k of the season: in range, and 0 from m on
abbrev pub cell_ok : ℕ → ℕ → ℤ → Bool
cell_ok m k v = cond (ltb k m) (in_range v) (is_zero v)

-- 48 season cells (those from m on are 0)
abbrev pub seasonal_ok : ℕ → List ℤ → Bool
seasonal_ok m cells = all_below 48 (λ (k : ℕ). cell_ok m k (get_or cells k (pos 0)))

-- the place p is 0 to m − 1, or 0
abbrev pub index_ok : ℕ → ℕ → Bool
index_ok m p = cond (eqb m 0) (eqb p 0) (ltb p m)

-- the count of steps is at most 2^48
abbrev pub count_ok : ℕ → Bool
count_ok n = leb n max_count

-- l, b and the season values
abbrev pub values_ok : State → Bool
values_ok s = in_range s.level && trend_ok s.model s.trend && seasonal_ok s.period s.seasonal

-- p and the count
abbrev pub position_ok : State → Bool
position_ok s = index_ok s.period s.index && count_ok s.count

-- the state's first rejection in the order 5, 6, 7, 16, 9, 10, 17, or 0
unfoldable pub check : State → ℕ
check s =
    unless (valid_model s.model) bad_model
    then unless (period_ok s.model s.period) bad_period
    then parameters_code s.outside s.model s.alpha s.beta s.gamma s.phi
    then unless (values_ok s) bad_value
    then unless (position_ok s) bad_position
    then unless (score_ok s.count s.score) bad_score
