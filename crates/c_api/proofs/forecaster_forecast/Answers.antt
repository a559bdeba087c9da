-- `c_api::forecaster_forecast` meets its contract.
use mathlib.Core.Path.{◌∙◌}
use mir.Syntax.{w64}
use mir.ValLaws.{to_z-of_z}
use borrow.Author.Rules.{rules}
use Rattle.in_place.specs.InPlace.{in_place_forecast_code}
use Rattle.in_place.proofs.Codes.{code-forecast-in-place}
use Rattle.c_api.proofs.Numbers.{refusal-number, forecast-stored, forecast-kept}
use Rattle.c_api.proofs.forecaster_forecast.Goals as goal

pub returns-in-Ok-clause-number : goal.returns-in-Ok-clause-number
returns-in-Ok-clause-number c =
    to_z-of_z w64 c.in-Ok.v (search rules) ∙ (forecast-stored c.args.snapshot.now c.args.horizon c.args.value.now c.in-Ok.ensures).1

pub returns-in-Err-clause-code : goal.returns-in-Err-clause-code
returns-in-Err-clause-code c =
    c.number.ensures ∙ refusal-number (in_place_forecast_code c.args.snapshot.now c.args.horizon) _ (code-forecast-in-place c.args.snapshot.now c.args.horizon) c.in-Err.ensures

pub returns-in-Err-clause-number : goal.returns-in-Err-clause-number
returns-in-Err-clause-number c = forecast-kept c.args.snapshot.now c.args.horizon c.args.value.now c.in-Err.ensures
