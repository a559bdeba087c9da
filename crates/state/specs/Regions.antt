-- Document 02, W-201: what the usual region changes of the checks of a state, and what it leaves.
use Rattle.std.specs.Prelude.{ℕ, ◌≡◌, Bool, true, false, cond, not}
use Rattle.state.specs.Rejections.{unless, ◌then◌, bad_model, bad_period, bad_parameter, bad_value, bad_position, bad_score, unusual_gains}
use Rattle.models.specs.Models.{has_trend, has_season, valid_model, period_ok, parameters_ok, usual_gains}
use Rattle.state.specs.Scores.{no_score, score_ok}
use Rattle.state.specs.States.{parameters_code, values_ok, position_ok, check}
use Rattle.state.specs.declared.State.{State}

-- the state as 18 (outside) or 10 opens it
abbrev pub opened_by : Bool → State → State
opened_by outside s =
    record {
      outside = outside;
      model = s.model;
      period = s.period;
      alpha = s.alpha;
      beta = s.beta;
      gamma = s.gamma;
      phi = s.phi;
      level = s.level;
      trend = s.trend;
      seasonal = s.seasonal;
      index = s.index;
      count = s.count;
      score = s.score;
    }

abbrev pub is_usual : State → Bool
is_usual s = usual_gains s.alpha s.beta s.gamma

-- document 01's checks of model, m and parameters, and all of its checks, with the later 17: they know no region
abbrev pub model_check : State → ℕ
model_check s =
    unless (valid_model s.model) bad_model
    then unless (period_ok s.model s.period) bad_period
    then unless (parameters_ok s.model s.alpha s.beta s.gamma s.phi) bad_parameter

abbrev pub plain_check : State → ℕ
plain_check s = model_check s then unless (values_ok s) bad_value then unless (position_ok s) bad_position then unless (score_ok s.count s.score) bad_score

pub record RegionLaws : Type 0 where
  -- the parameters, of a group and of a state alike: with the command that the gains call for, 18 outside the usual region and else 10, they are refused as in document 01
  pub parameters : (model A B G F : ℕ) → parameters_code (not (usual_gains A B G)) model A B G F ≡ unless (parameters_ok model A B G F) bad_parameter
  -- so are states: as that command opens it, the checks of a state are document 01's
  pub same : (s : State) → check (opened_by (not (is_usual s)) s) ≡ plain_check s
  -- with a score of zeros, as every state had before document 02, W-204, there is no 17: the checks are document 01's own
  pub unscored : (s : State) → s.score ≡ no_score → plain_check s ≡ (model_check s then unless (values_ok s) bad_value then unless (position_ok s) bad_position)
  -- the other command opens none: after document 01's 5, 6 and 7 it is 7 for 18, 16 for 10
  pub other : (s : State) → check (opened_by (is_usual s) s) ≡ (model_check s then cond (is_usual s) bad_parameter unusual_gains)
  -- so a state that passes tells which of the two opened it
  pub opener : (s : State) → check s ≡ 0 → s.outside ≡ not (is_usual s)
  -- without trend and season the gains are always inside
  pub simple : (model A B G F : ℕ) → has_trend model ≡ false → has_season model ≡ false → parameters_ok model A B G F ≡ true → usual_gains A B G ≡ true
