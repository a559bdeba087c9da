-- T1 to T12, W-211, W-204, W-210 and W-205: each row of the table holds, since both sides compute to the same.
use mathlib.Core.Path.{refl}
use Rattle.state.specs.Fixed.{R, share}
use Rattle.integers.specs.Below.{all_below}
use Rattle.state.specs.Scores.{sum_of, sum_ok}
use Rattle.state.specs.States.{check, parameters_code}
use Rattle.calendars.specs.Turns.{next_index}
use Rattle.ets.specs.Steps.{damped_trend, season_by, residual, new_level, new_trend, new_season, seasonal_by, square_of, score_after, advanced, missing_code, step_code_by, step, missing}
use Rattle.forecasts.specs.Forecasts.{trend_at, trend_line, season_at, forecast_of, forecast_code_to, forecast_to}
use Rattle.weights.specs.Weights.{damping_sum, trend_term, season_term, coefficient, squares, weight_of, errors_code, weight, variance}
use Rattle.weights.specs.Groups.{group_sum, first_groups, weight_groups_code, weight_group_cells}
use Rattle.station_cases.specs.Cases.{Every, table}

infixr 4 ◌and◌
◌and◌ : {A B : Type 0} → A → B → A × B
a and b = (a, b)

pub all-rows : Every table
unfolding Every R share all_below sum_of sum_ok check parameters_code damped_trend season_by residual new_level new_trend new_season seasonal_by square_of score_after next_index advanced missing_code step_code_by step missing trend_at trend_line season_at forecast_of forecast_code_to forecast_to damping_sum trend_term season_term coefficient squares weight_of errors_code weight variance group_sum first_groups weight_groups_code weight_group_cells table
all-rows =
    -- T1
    refl and refl and refl and refl
    -- T2
    and refl and refl and refl and refl
    -- T3
    and refl and refl
    -- T4
    and refl and refl
    -- T5
    and refl and refl and refl and refl
    -- T6
    and refl
    -- T7
    and refl
    -- T8
    and refl
    -- T9
    and refl and refl
    -- T10
    and refl and refl
    -- T11
    and refl and refl and refl and refl and refl
    -- T12
    and refl
    -- W-211
    and refl and refl and refl and refl and refl and refl and refl
    -- W-204
    and refl and refl and refl and refl and refl and refl and refl and refl
    -- W-210
    and refl and refl and refl and refl and refl and refl
    -- W-205
    and refl and refl and refl and refl and refl and refl and refl and refl
    and tt
