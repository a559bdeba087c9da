-- The pins, by computing.
use mathlib.Core.Path.{refl}
use Rattle.integers.specs.Below.{all_below}
use Rattle.calendars.specs.Calendars.{rising, disjoint}
use Rattle.state.specs.Fixed.{R, share}
use Rattle.state.specs.Scores.{sum_of, sum_ok}
use Rattle.state.specs.States.{check, parameters_code}
use Rattle.calendars.specs.Turns.{next_index}
use Rattle.ets.specs.Steps.{damped_trend, season_by, residual, new_level, new_trend, new_season, seasonal_by, square_of, score_after, advanced, missing_code, step_code_by, step, missing}
use Rattle.ets.specs.Batches.{take_code_by, after_take_by, run_by, batch_run, batch, batch_levels}
use Rattle.ets.specs.Calendars.{calendar_code, step_code_on, missing_code_on, batch_code_on, step_on, missing_on, batch_run_on, batch_on}
use Rattle.ets.specs.Pins.{GapPins, OrderPins, BatchPins, StepPins, RejectionPins, Pins}

gap-pins : GapPins
unfolding all_below R share sum_of sum_ok check parameters_code next_index damped_trend season_by advanced missing_code missing
gap-pins = record { level = refl; trend = refl; season = refl }

order-pins : OrderPins
unfolding all_below R share sum_of sum_ok check parameters_code next_index damped_trend season_by residual new_level new_trend new_season step_code_by step
order-pins = record { state_first = refl }

batch-pins : BatchPins
unfolding all_below R share sum_of sum_ok check parameters_code next_index damped_trend season_by residual new_level new_trend new_season seasonal_by square_of score_after advanced missing_code step_code_by take_code_by after_take_by run_by batch_run batch batch_levels
batch-pins = record { levels = refl; halted = refl; taken = refl; short = refl }

step-pins : StepPins
unfolding all_below rising disjoint R share sum_of sum_ok check parameters_code next_index damped_trend season_by residual new_level new_trend new_season seasonal_by square_of score_after advanced calendar_code step_code_on missing_code_on step_on missing_on
step-pins =
    record {
      skipped = refl;
      skipped_to = refl;
      skipped_at = refl;
      skipped_over = refl;
      repeated = refl;
      repeated_to = refl;
      not_due = refl;
      before_the_step = refl;
      gap_skips = refl;
      gap_repeats = refl;
    }

rejection-pins : RejectionPins
unfolding all_below rising disjoint R share sum_of sum_ok check parameters_code next_index damped_trend season_by residual new_level new_trend new_season seasonal_by square_of score_after advanced run_by calendar_code step_code_on missing_code_on batch_code_on step_on missing_on batch_run_on batch_on
rejection-pins =
    record {
      equal_counts = refl;
      falling = refl;
      in_both = refl;
      then_13 = refl;
      before_14 = refl;
      no_readings = refl;
      after_12 = refl;
      no_season = refl;
    }

pub pins : Pins
pins = record { gaps = gap-pins; order = order-pins; batches = batch-pins; steps = step-pins; rejections = rejection-pins }
