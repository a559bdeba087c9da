-- The pins, computed.
use mathlib.Core.Path.{refl}
use mathlib.Core.List.{[], ◌∷◌}
use Rattle.state.specs.Fixed.{R, share}
use Rattle.integers.specs.Below.{all_below}
use Rattle.state.specs.Scores.{sum_of, sum_ok}
use Rattle.state.specs.States.{check, parameters_code, no_state}
use Rattle.calendars.specs.Turns.{next_index}
use Rattle.ets.specs.Steps.{damped_trend, season_by, residual, new_level, new_trend, new_season, seasonal_by, square_of, score_after, missing_code, advanced, step_code_by, step, missing}
use Rattle.forecasts.specs.Forecasts.{trend_at, trend_line, season_at, forecast_of, forecast_code_to, forecast_to}
use Rattle.layout.specs.Bytes.{from_bytes}
use Rattle.layout.specs.CommandTable.{command_size, is_command, only_in_snapshot, opens}
use Rattle.snapshot.specs.Snapshots.{due_code, model_code, level_code, score_code, position_code, scan_seasons, scan, cells_at, decoded, read}
use Rattle.saving.specs.Encoding.{to_bytes, model_bytes, level_bytes, score_bytes, season_bytes, seasons_bytes, position_bytes, encoded}
use Rattle.checkpoints.specs.Checkpoints.{store_code, store, stored_bytes, is_held, restore_code, restore}
use Rattle.decoding.specs.Decoding.{allowed_here, command_code, operands, decode}
use Rattle.commands.specs.Commands.{start, finish, open_snapshot, take_reading, take_missing, give_forecast, store_state, restore_state, perform, perform_checkpoints}
use Rattle.streams.specs.Stream.{admit, answers_in, answers_from, answers}
use Rattle.rollbacks.specs.Rollbacks.{begins, answer_at, after, none, more, KeptAndBack}
use Rattle.rollbacks.specs.Pins.{replies_of, holiday, Shown, Needed, Names, Pins}

situation : KeptAndBack holiday 1
unfolding R share all_below sum_of sum_ok check parameters_code no_state damped_trend season_by residual new_level new_trend new_season seasonal_by square_of score_after next_index missing_code advanced step_code_by step missing trend_at trend_line season_at forecast_of forecast_code_to forecast_to from_bytes command_size is_command only_in_snapshot opens due_code model_code level_code score_code position_code scan_seasons scan cells_at decoded read to_bytes model_bytes level_bytes score_bytes season_bytes seasons_bytes position_bytes encoded store_code store stored_bytes is_held restore_code restore allowed_here command_code operands decode start finish open_snapshot take_reading take_missing give_forecast store_state restore_state perform perform_checkpoints
situation =
    let s = holiday in
    let a = after s begins in
    let b = after s a in
    let c = after s b in
    let d = after s c in
    record {
      earlier = answer_at s begins ∷ answer_at s a ∷ [];
      here = b;
      reached = more {x = begins} refl refl (more {x = a} refl refl none);
      keeps = refl;
      accepted = refl;
      between = answer_at s c ∷ answer_at s d ∷ [];
      there = after s d;
      gone = more {x = c} refl refl (more {x = d} refl refl none);
      back = refl;
    }

needed : Needed
unfolding replies_of admit answers_in answers_from answers R share all_below sum_of sum_ok check parameters_code no_state damped_trend season_by residual new_level new_trend new_season seasonal_by square_of score_after next_index missing_code advanced step_code_by step missing trend_at trend_line season_at forecast_of forecast_code_to forecast_to from_bytes command_size is_command only_in_snapshot opens due_code model_code level_code score_code position_code scan_seasons scan cells_at decoded read to_bytes model_bytes level_bytes score_bytes season_bytes seasons_bytes position_bytes encoded store_code store stored_bytes is_held restore_code restore allowed_here command_code operands decode start finish open_snapshot take_reading take_missing give_forecast store_state restore_state perform perform_checkpoints
needed = record { kept = refl; never = refl }

names : Names
unfolding replies_of admit answers_in answers_from answers R share all_below sum_of sum_ok check parameters_code no_state damped_trend season_by residual new_level new_trend new_season seasonal_by square_of score_after next_index missing_code advanced step_code_by step missing trend_at trend_line season_at forecast_of forecast_code_to forecast_to from_bytes command_size is_command only_in_snapshot opens due_code model_code level_code score_code position_code scan_seasons scan cells_at decoded read to_bytes model_bytes level_bytes score_bytes season_bytes seasons_bytes position_bytes encoded store_code store stored_bytes is_held restore_code restore allowed_here command_code operands decode start finish open_snapshot take_reading take_missing give_forecast store_state restore_state perform perform_checkpoints
names =
    record { group = refl; twice = refl; empty = refl; above = refl; above_back = refl; unopened = refl; unopened_back = refl; cut = refl }

shown : Shown
unfolding situation replies_of admit answers_in answers_from answers R share all_below sum_of sum_ok check parameters_code no_state damped_trend season_by residual new_level new_trend new_season seasonal_by square_of score_after next_index missing_code advanced step_code_by step missing trend_at trend_line season_at forecast_of forecast_code_to forecast_to from_bytes command_size is_command only_in_snapshot opens due_code model_code level_code score_code position_code scan_seasons scan cells_at decoded read to_bytes model_bytes level_bytes score_bytes season_bytes seasons_bytes position_bytes encoded store_code store stored_bytes is_held restore_code restore allowed_here command_code operands decode start finish open_snapshot take_reading take_missing give_forecast store_state restore_state perform perform_checkpoints
shown = record { situation = situation; shorter = refl; gone = refl; stayed = refl }

pub pins : Pins
pins = record { shown = shown; needed = needed; names = names }
