-- The pins, by computing.
use mathlib.Core.Path.{refl}
use Rattle.integers.specs.Below.{all_below}
use Rattle.state.specs.Fixed.{R, share}
use Rattle.state.specs.Scores.{sum_of, sum_ok}
use Rattle.state.specs.States.{check, parameters_code}
use Rattle.forecasts.specs.Forecasts.{forecast_code_to, forecasts_code_to}
use Rattle.weights.specs.Weights.{damping_sum, trend_term, season_term, coefficient, errors_code}
use Rattle.weights.specs.Coefficients.{coefficient_list, coefficient_cells}
use Rattle.weights.specs.Groups.{group_sum, first_groups, weight_groups_code, weight_group_cells}
use Rattle.weights.specs.Pins.{Pins}

pub pins : Pins
unfolding all_below R share sum_of sum_ok check parameters_code forecast_code_to forecasts_code_to damping_sum trend_term season_term coefficient errors_code coefficient_list coefficient_cells group_sum first_groups weight_groups_code weight_group_cells
pins = record { trend = refl; season = refl; groups = refl }
