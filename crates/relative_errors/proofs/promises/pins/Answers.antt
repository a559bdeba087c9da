-- Each computes.
use mathlib.Core.Path.{refl}
use lib.Ieee.{add, sub, mul, div, of_int, of_bits, round, sum}
use Rattle.integers.specs.Below.{all_below}
use Rattle.state.specs.Fixed.{R, share}
use Rattle.state.specs.Scores.{sum_of, sum_ok}
use Rattle.state.specs.States.{check, parameters_code}
use Rattle.forecasts.specs.Forecasts.{trend_at, trend_line, season_at, forecast_of}
use Rattle.weights.specs.Weights.{damping_sum, trend_term, season_term, coefficient, errors_code}
use Rattle.relative_errors.specs.Relative.{from_fixed, squared, squared_mean, squared_coefficient, sum_to, next_theta, thetas, variance_of, sums_finite, thetas_finite, all_finite, input_code, relative_code, relative_variance, relative_cells}
use Rattle.relative_errors.specs.Pins.{Pins}
use Rattle.relative_errors.proofs.promises.pins.Goals as goal

computed : Pins
unfolding add sub mul div of_int of_bits round sum all_below R share sum_of sum_ok check parameters_code trend_at trend_line season_at forecast_of damping_sum trend_term season_term coefficient errors_code from_fixed squared squared_mean squared_coefficient sum_to next_theta thetas variance_of sums_finite thetas_finite all_finite input_code relative_code relative_variance relative_cells
computed =
    record {
      answer = refl;
      cells = refl;
      most = refl;
      above = refl;
      first = refl;
      second = refl;
      third = refl;
      fourth = refl;
      fifth = refl;
      thetas = refl;
      answer_too = refl;
      later_theta = refl;
    }

pub returns : goal.returns
returns c = computed
