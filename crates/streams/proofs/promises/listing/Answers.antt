-- `commands::promises::listing` meets its contract: antt computes the text.
use mathlib.Core.Path.{refl}
use Rattle.state.specs.Fixed.{R, share}
use Rattle.integers.specs.Below.{all_below}
use Rattle.state.specs.Scores.{sum_of, sum_ok}
use Rattle.state.specs.States.{check, parameters_code, no_state}
use Rattle.calendars.specs.Turns.{next_index}
use Rattle.ets.specs.Steps.{damped_trend, season_by, residual, new_level, new_trend, new_season, seasonal_by, square_of, score_after, missing_code, step_code_by, step}
use Rattle.forecasts.specs.Forecasts.{trend_at, trend_line, season_at, forecast_of, forecast_code_to, forecast_to}
use Rattle.weights.specs.Weights.{damping_sum, trend_term, season_term, coefficient, squares, weight_of, errors_code, weight, variance}
use Rattle.layout.specs.Bytes.{from_bytes}
use Rattle.layout.specs.CommandTable.{command_size, is_command, only_in_snapshot, opens}
use Rattle.snapshot.specs.Snapshots.{due_code, model_code, level_code, score_code, position_code, scan_seasons, scan, cells_at, decoded, read}
use Rattle.decoding.specs.Decoding.{allowed_here, command_code, operands, decode}
use Rattle.lines.specs.Lines.{digits, digit_count, decimal, signed_decimal, fields_bytes, line_of}
use Rattle.commands.specs.Commands.{start, finish, open_snapshot, take_reading, give_forecast, give_variance, perform}
use Rattle.streams.specs.Stream.{admit, answers_in, answers_from, answers, line_after, text_of, text}
use Rattle.streams.proofs.promises.listing.Goals as goal

pub returns : goal.returns
unfolding R share all_below sum_of sum_ok check parameters_code no_state damped_trend season_by residual new_level new_trend new_season seasonal_by square_of score_after next_index missing_code step_code_by step trend_at trend_line season_at forecast_of forecast_code_to forecast_to damping_sum trend_term season_term coefficient squares weight_of errors_code weight variance from_bytes command_size is_command only_in_snapshot opens due_code model_code level_code score_code position_code scan_seasons scan cells_at decoded read digits digit_count decimal signed_decimal fields_bytes line_of allowed_here command_code operands decode start finish open_snapshot take_reading give_forecast give_variance perform admit answers_in answers_from answers line_after text_of text
returns c = refl
