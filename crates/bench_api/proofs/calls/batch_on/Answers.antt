-- `bench_api::calls::batch_on` meets its contract: a rejected slice leaves the cells as found, and no reading is taken.
use mathlib.Core.Path.{sym, ap}
use Rattle.state.proofs.Answers.{given-accepted, as-outcome, check-keeps}
use Rattle.ets.specs.declared.Batched.{Batched}
use Rattle.slices.specs.Slices.{in_place_code}
use Rattle.bench_api.specs.Snapshots.{batch_on_taken, batch_on_cells}
use Rattle.bench_api.proofs.calls.batch_on.Goals as goal

pub returns-in_err-opened-clause-number : goal.returns-in_err-opened-clause-number
unfolding batch_on_taken
returns-in_err-opened-clause-number c = check-keeps _ _ _ (as-outcome (in_place_code c.args.snapshot.now) _ c.in_err-opened.ensures)

pub returns-in_err-opened-clause-buffer : goal.returns-in_err-opened-clause-buffer
unfolding batch_on_cells
returns-in_err-opened-clause-buffer c = check-keeps _ _ _ (as-outcome (in_place_code c.args.snapshot.now) _ c.in_err-opened.ensures)

pub returns-clause-number : goal.returns-clause-number
unfolding batch_on_taken
returns-clause-number c =
    let g = given-accepted _ _ _ (sym c.in_ok-opened.ensures) in
    rw (g.0, g.1) (ap (λ (r : Batched). r.taken) c.batch_on-done.ensures.answer)

pub returns-clause-buffer : goal.returns-clause-buffer
unfolding batch_on_cells
returns-clause-buffer c = let g = given-accepted _ _ _ (sym c.in_ok-opened.ensures) in rw (g.0, g.1) c.batch_on-done.ensures.buffer
