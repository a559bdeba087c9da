-- `snapshot::reading::check_parameters_at` meets its contract.
use Rattle.snapshot.proofs.reading.check_parameters_at.Goals as goal

pub returns : goal.returns
returns c =
    rw (← c.parameter_at.ensures, ← c.parameter_at-2.ensures, ← c.parameter_at-3.ensures, ← c.parameter_at-4.ensures) c.check_parameters.ensures
