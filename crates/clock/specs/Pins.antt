-- Computed: the ends of a quiet window, on the season of `ets`'s pins, whose value at each place is as many reading units as the place's number.
use Rattle.std.specs.Prelude.{[], ◌∷◌, ◌≡◌, Ok}
use Rattle.ets.specs.Pins.{units, hourly, skips}
use Rattle.clock.specs.Windows.{window_maximum}
use Rattle.state.specs.Rejections.{rejects}

pub record Pins : Type 0 where
  -- the end is not inside
  pub half_open : window_maximum (skips []) (hourly 0 0) 5 7 ≡ Ok (units 6)
  -- 22, 23, 0 and 1
  pub over_midnight : window_maximum (skips []) (hourly 0 0) 22 2 ≡ Ok (units 23)
  pub to_midnight : window_maximum (skips []) (hourly 0 0) 3 0 ≡ Ok (units 23)
  -- equal ends are the whole day
  pub whole_day : window_maximum (skips []) (hourly 0 0) 7 7 ≡ Ok (units 23)
  -- the place 2 alone, which is skipped
  pub no_step : window_maximum (skips (2 ∷ [])) (hourly 0 0) 2 3 ≡ rejects 20
  pub some_step : window_maximum (skips []) (hourly 0 0) 2 3 ≡ Ok (units 2)
  pub last_place : window_maximum (skips []) (hourly 0 0) 23 0 ≡ Ok (units 23)
  pub start_above_23 : window_maximum (skips []) (hourly 0 0) 24 0 ≡ rejects 20
  pub end_above_23 : window_maximum (skips []) (hourly 0 0) 0 24 ≡ rejects 20
