-- The pins, by computing.
use mathlib.Core.Path.{refl}
use Rattle.integers.specs.Below.{all_below}
use Rattle.state.specs.Scores.{sum_of, sum_ok}
use Rattle.state.specs.States.{no_state, check, parameters_code}
use Rattle.state.specs.Switching.{switch_to_even}
use Rattle.state.specs.Pins.{OrderPins, SwitchPins, Pins}

order-pins : OrderPins
unfolding all_below sum_of sum_ok check parameters_code
order-pins = record { period_first = refl; parameter_next = refl; value_next = refl; position_next = refl }

switch-pins : SwitchPins
unfolding all_below sum_of sum_ok no_state check parameters_code switch_to_even
switch-pins = record { level_kept = refl; rule_set = refl; rejected_kept = refl }

pub pins : Pins
pins = record { order = order-pins; switch = switch-pins }
