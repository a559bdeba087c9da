-- The pins, by computing.
use mathlib.Core.Path.{refl}
use Rattle.integers.specs.Below.{all_below}
use Rattle.calendars.specs.Calendars.{rising, disjoint}
use Rattle.state.specs.Fixed.{R, share}
use Rattle.state.specs.Scores.{sum_of, sum_ok}
use Rattle.state.specs.States.{check, parameters_code}
use Rattle.calendars.specs.Turns.{next_index}
use Rattle.ets.specs.Calendars.{calendar_code}
use Rattle.forecasts.specs.Forecasts.{trend_at, trend_line}
use Rattle.forecasts.specs.Calendars.{index_from, forecast_by}
use Rattle.clock.specs.Windows.{inside_to, largest_from, window_code, window_maximum}
use Rattle.clock.specs.Pins.{Pins}

pub pins : Pins
unfolding all_below rising disjoint R share sum_of sum_ok check parameters_code next_index calendar_code trend_at trend_line index_from forecast_by inside_to largest_from window_code window_maximum
pins =
    record {
      half_open = refl;
      over_midnight = refl;
      to_midnight = refl;
      whole_day = refl;
      no_step = refl;
      some_step = refl;
      last_place = refl;
      start_above_23 = refl;
      end_above_23 = refl;
    }
