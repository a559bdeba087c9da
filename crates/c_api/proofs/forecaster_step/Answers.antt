-- `c_api::forecaster_step` meets its contract.
use mathlib.Core.Path.{sym, ◌∙◌}
use mir.Facts.{to_z-of_z as reading-is}
use mir.Syntax.{w64}
use mir.ValLaws.{to_z-of_z}
use borrow.Author.Rules.{rules}
use Rattle.in_place.specs.InPlace.{in_place_step_code}
use Rattle.in_place.proofs.Codes.{code-step-in-place}
use Rattle.c_api.proofs.Numbers.{refusal-number, residual-stored, residual-kept}
use Rattle.c_api.proofs.forecaster_step.Goals as goal

pub returns-in-Ok-clause-number : goal.returns-in-Ok-clause-number
returns-in-Ok-clause-number c =
    to_z-of_z w64 c.in-Ok.e (search rules) ∙ (residual-stored c.args.snapshot.now c.args.reading c.args.residual.now (rw (reading-is c.ranges.reading) at (sym c.in-Ok.is ∙ c.step.ensures.answer))).1

pub returns-in-Err-clause-code : goal.returns-in-Err-clause-code
returns-in-Err-clause-code c =
    c.number.ensures ∙ refusal-number (in_place_step_code c.args.snapshot.now c.args.reading) _ (code-step-in-place c.args.snapshot.now c.args.reading) (rw (reading-is c.ranges.reading) at (sym c.in-Err.is ∙ c.step.ensures.answer))

pub returns-in-Err-clause-number : goal.returns-in-Err-clause-number
returns-in-Err-clause-number c =
    residual-kept c.args.snapshot.now c.args.reading c.args.residual.now (rw (reading-is c.ranges.reading) at (sym c.in-Err.is ∙ c.step.ensures.answer))
