-- The rejection of each call is a number of the papers, or 0.
use Prim.Native.Nat.{ℕ}
use mathlib.Core.Path.{◌≡◌, ap, ◌∙◌}
use mathlib.Core.Bool.{Bool, ◌&&◌, ◌||◌, not}
use native.Mathlib.Omega.{arith}
use lib.Dec.{eqb}
use lib.IntN.{ℤ}
use Rattle.calendars.specs.Calendars.{Calendar, no_changes}
use Rattle.state.specs.Rejections.{unless, ◌then◌, code_in, IsCode, bad_model, bad_period, bad_parameter, bad_value, bad_position, bad_horizon, short_buffer, bad_reading, count_full, leaves_range, unusual_gains, bad_score, bad_calendar}
use Rattle.models.specs.Models.{valid_model, period_ok, parameters_ok, usual_gains, ties_to_even}
use Rattle.state.specs.Fixed.{is_reading, max_count}
use Rattle.state.specs.Scores.{score_ok}
use Rattle.state.specs.States.{parameters_code, values_ok, position_ok, check}
use Rattle.state.specs.declared.State.{State}
use Rattle.state.proofs.Answers.{code-then, code-unless, code-of}
use Rattle.ets.specs.Steps.{terms_by, residual, stays_in_range, reading_code, gap_code, step_code_by, step_code, missing_code}
use Rattle.ets.specs.Updates.{numbers_of, update, update_missing}
use Rattle.ets.specs.declared.Terms.{Terms}
use Rattle.ets.specs.Calendars.{calendar_code, step_code_on, missing_code_on}
use Rattle.ets.proofs.UpdateLaws.{update-is, update-missing-is}
use Rattle.forecasts.specs.Forecasts.{forecast_code_to, forecasts_code_to}
use Rattle.forecasts.specs.Calendars.{forecast_code_on, forecasts_code_on}

-- a check before others
pub first : (t : Bool) (n k : ℕ) → IsCode n → IsCode k → IsCode (unless t n then k)
first t n k a b = code-then (unless t n) k (code-unless t n a) b

pub code-check : (s : State) → IsCode (check s)
unfolding check parameters_code
code-check s =
    first (valid_model s.model) bad_model _ (omega arith) (
    first (period_ok s.model s.period) bad_period _ (omega arith) (
    code-then _ _ (first (parameters_ok s.model s.alpha s.beta s.gamma s.phi && not (s.outside && usual_gains s.alpha s.beta s.gamma)) bad_parameter _ (omega arith) (code-unless (s.outside || usual_gains s.alpha s.beta s.gamma) unusual_gains (omega arith))) (
    first (values_ok s) bad_value _ (omega arith) (
    first (position_ok s) bad_position _ (omega arith) (
    code-unless (score_ok s.count s.score) bad_score (omega arith))))))

code-reading : (t : Terms) (n : ℕ) (y : ℤ) → IsCode (reading_code t n y)
code-reading t n y =
    first (is_reading y) bad_reading _ (omega arith) (first (not (eqb n max_count)) count_full _ (omega arith) (code-unless (stays_in_range t (residual t y)) leaves_range (omega arith)))

code-gap : (t : Terms) (n : ℕ) → IsCode (gap_code t n)
code-gap t n = first (not (eqb n max_count)) count_full _ (omega arith) (code-unless _ leaves_range (omega arith))

code-calendar : (m : ℕ) (k : Calendar) → IsCode (calendar_code m k)
unfolding calendar_code
code-calendar m k = code-unless _ bad_calendar (omega arith)

module _ (s : State) where
  pub code-step : (k : Calendar) (y : ℤ) → IsCode (step_code_by k s y)
  unfolding step_code_by
  code-step k y = code-then (check s) _ (code-check s) (code-reading (terms_by k s) s.count y)

  pub code-missing : IsCode (missing_code s)
  unfolding missing_code
  code-missing = code-then (check s) _ (code-check s) (code-gap _ s.count)

  pub code-forecast : (limit h : ℕ) → IsCode (forecast_code_to limit s h)
  unfolding forecast_code_to
  code-forecast limit h = code-then (check s) _ (code-check s) (code-unless _ bad_horizon (omega arith))

  pub code-forecasts : (limit h room : ℕ) → IsCode (forecasts_code_to limit s h room)
  unfolding forecasts_code_to
  code-forecasts limit h room = code-then _ _ (code-forecast limit h) (code-unless _ short_buffer (omega arith))

  -- by a calendar of clock changes
  module _ (k : Calendar) where
    pub code-step-on : (y : ℤ) → IsCode (step_code_on k s y)
    unfolding step_code_on
    code-step-on y =
        code-then (check s) _ (code-check s) (code-then (calendar_code s.period k) _ (code-calendar s.period k) (code-reading (terms_by k s) s.count y))

    pub code-missing-on : IsCode (missing_code_on k s)
    unfolding missing_code_on
    code-missing-on =
        code-then (check s) _ (code-check s) (code-then (calendar_code s.period k) _ (code-calendar s.period k) (code-gap (terms_by k s) s.count))

    pub code-forecast-on : (h : ℕ) → IsCode (forecast_code_on k s h)
    unfolding forecast_code_on
    code-forecast-on h = code-then _ _ (code-forecast 512 h) (code-calendar s.period k)

    pub code-forecasts-on : (h room : ℕ) → IsCode (forecasts_code_on k s h room)
    unfolding forecasts_code_on
    code-forecasts-on h room = code-then _ _ (code-forecasts 512 h room) (code-calendar s.period k)

-- the call on the numbers of a state that passes its checks is told by the number of the step
module _ (s : State) (ok : check s ≡ 0) where
  pub update-code : (y : ℤ) → code_in (update (ties_to_even s.model) (numbers_of s) y) ≡ step_code s y
  update-code y = ap code_in (update-is s ok y) ∙ code-of (step_code s y) _ (code-step s no_changes y)

  pub update-missing-code : code_in (update_missing (ties_to_even s.model) (numbers_of s)) ≡ missing_code s
  update-missing-code = ap code_in (update-missing-is s ok) ∙ code-of (missing_code s) _ (code-missing s)
