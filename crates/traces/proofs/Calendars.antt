-- How the calls with a calendar of clock changes (document 02, W-208) work.
use Prim.Native.Nat.{ℕ}
use mathlib.Core.Path.{◌≡◌, refl}
use mathlib.Core.List.{List}
use lib.IntN.{ℤ}
use lib.ListN.{length, take, drop}
use lib.Seq.{take_at}
use Rattle.calendars.specs.Calendars.{Calendar}
use Rattle.state.specs.Rejections.{answer_code, answer_value}
use Rattle.state.specs.declared.State.{State}
use Rattle.state.proofs.Answers.{outcome-code, answer-code}
use Rattle.state.proofs.Tests.{then-zero}
use Rattle.ets.specs.Steps.{residual_by}
use Rattle.ets.specs.Calendars.{calendar_code, step_code_on, missing_code_on, batch_code_on, step_on, missing_on, batch_run_on, batch_on, batch_levels_on}
use Rattle.ets.proofs.CalendarLaws.{Followed, followed, step-on-facts, missing-on-facts, batch-on-facts}
use Rattle.forecasts.specs.Forecasts.{forecast_code, forecasts_code}
use Rattle.forecasts.specs.Calendars.{forecast_by, forecast_list_by, forecast_code_on, forecast_on, forecasts_code_on, forecasts_on, forecast_cells_on}
use Rattle.forecasts.proofs.CalendarLaws.{list-length-by}
use Rattle.traces.specs.Calls.{ReadingOn, MissingOn, BatchOn, ForecastOn, ForecastsOn, result}
use Rattle.traces.specs.Scores.{squares}
use Rattle.forecasts.proofs.Codes.{code-step-on, code-missing-on, code-forecast-on, code-forecasts-on}
use Rattle.traces.proofs.Works.{listed, Works, reads, misses, takes, walks-one, walks-all}

module _ (s : State) (k : Calendar) where
  pub reading-on : (y : ℤ) → Works s (squares s (ReadingOn k y)) (result s (ReadingOn k y))
  unfolding result squares step_on
  reading-on y =
      rw (answer-code (step_code_on k s y) (residual_by k s y) (code-step-on s k y))
      (reads k y (step_code_on k s y) (λ z. let f = step-on-facts k s y z in (listed f.calendar, f.plain)))

  pub missing-on : Works s (squares s (MissingOn k)) (result s (MissingOn k))
  unfolding result squares missing_on
  missing-on =
      rw (outcome-code (missing_code_on k s) (code-missing-on s k))
      (misses k (missing_code_on k s) (λ z. let f = missing-on-facts k s z in (listed f.calendar, f.plain)))

  -- the first `taken` cells are the levels
  batch-numbers : (ys cells : List ℤ) → take (length (batch_run_on k s ys (length cells)).levels) (batch_levels_on k s ys cells) ≡ (batch_run_on k s ys (length cells)).levels
  unfolding batch_levels_on
  batch-numbers ys cells =
      take_at (batch_run_on k s ys (length cells)).levels (drop (length (batch_run_on k s ys (length cells)).levels) cells) (length (batch_run_on k s ys (length cells)).levels) refl

  pub batch-on : (ys cells : List ℤ) → Works s (squares s (BatchOn k ys cells)) (result s (BatchOn k ys cells))
  unfolding result squares batch_on batch_run_on
  batch-on ys cells =
      rw (batch-numbers ys cells)
      (takes k ys (batch_code_on k s (length ys) (length cells)) (λ z. listed (batch-on-facts k s (length ys) (length cells) z).calendar))

  module _ (h : ℕ) where
    forecast-answer : forecast_code_on k s h ≡ 0 → Followed s.period k × (answer_value (forecast_on k s h) ≡ forecast_by k s h)
    unfolding forecast_on forecast_code_on
    forecast-answer z = (followed s.period k (then-zero (forecast_code s h) (calendar_code s.period k) z).1, rw z)

    forecast-rejection : answer_code (forecast_on k s h) ≡ forecast_code_on k s h
    unfolding forecast_on
    forecast-rejection = answer-code (forecast_code_on k s h) (forecast_by k s h) (code-forecast-on s k h)

    pub forecast-on : Works s (squares s (ForecastOn k h)) (result s (ForecastOn k h))
    unfolding result squares
    forecast-on = rw forecast-rejection (walks-one k h (forecast_code_on k s h) (answer_value (forecast_on k s h)) forecast-answer)

    forecasts-numbers : (cells : List ℤ) → forecasts_code_on k s h (length cells) ≡ 0 → Followed s.period k × (take h (forecast_cells_on k s h cells) ≡ forecast_list_by k s h)
    unfolding forecast_cells_on forecasts_code_on
    forecasts-numbers cells z = (
      followed s.period k (then-zero (forecasts_code s h (length cells)) (calendar_code s.period k) z).1,
      rw z (take_at (forecast_list_by k s h) (drop h cells) h (list-length-by k s h)),
    )

    pub forecasts-on : (cells : List ℤ) → Works s (squares s (ForecastsOn k h cells)) (result s (ForecastsOn k h cells))
    unfolding result squares forecasts_on
    forecasts-on cells =
        rw (outcome-code (forecasts_code_on k s h (length cells)) (code-forecasts-on s k h (length cells)))
        (walks-all k h (forecasts_code_on k s h (length cells)) (take h (forecast_cells_on k s h cells)) (forecasts-numbers cells))
