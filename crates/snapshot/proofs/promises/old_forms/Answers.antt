use Rattle.snapshot.proofs.OldForms.{old-forms}
use Rattle.snapshot.proofs.promises.old_forms.Goals as goal

pub returns : goal.returns
returns c = old-forms
