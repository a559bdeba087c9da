-- `bench_api::calls::relative_variance` meets its contract: a rejected slice leaves the cells as found.
use mathlib.Core.Path.{sym}
use Rattle.state.proofs.Answers.{given-accepted, as-outcome, check-keeps}
use Rattle.slices.specs.Slices.{in_place_code}
use Rattle.bench_api.specs.Snapshots.{in_place_relative_cells}
use Rattle.bench_api.proofs.calls.relative_variance.Goals as goal

pub returns-in_err-opened-clause-buffer : goal.returns-in_err-opened-clause-buffer
unfolding in_place_relative_cells
returns-in_err-opened-clause-buffer c = check-keeps _ _ _ (as-outcome (in_place_code c.args.snapshot.now) _ c.in_err-opened.ensures)

pub returns-clause-buffer : goal.returns-clause-buffer
unfolding in_place_relative_cells
returns-clause-buffer c = let g = given-accepted _ _ _ (sym c.in_ok-opened.ensures) in rw (g.0, g.1) c.relative_variance.ensures.buffer
