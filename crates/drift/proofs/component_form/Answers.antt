use Rattle.drift.proofs.Components.{component-form}
use Rattle.drift.proofs.component_form.Goals as goal

pub returns : goal.returns
returns c = component-form
