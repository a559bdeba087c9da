-- `bench_api::calls::opened` meets its contract.
use mathlib.Core.Path.{sym, ap, ◌∙◌}
use Rattle.std.specs.Prelude.{Ok}
use Rattle.state.proofs.Answers.{check-rejects, check-passes}
use Rattle.snapshot.specs.Snapshots.{decoded}
use Rattle.snapshot.specs.declared.Opened.{Opened}
use Rattle.slices.specs.Slices.{in_place_code, in_place_read}
use Rattle.bench_api.proofs.calls.opened.Goals as goal

pub returns-in_err-opened : goal.returns-in_err-opened
unfolding in_place_read
returns-in_err-opened c =
    check-rejects (in_place_code c.args.snapshot.now) (decoded c.args.snapshot.now) (sym c.in_err-opened.was ∙ ap (λ (o : Opened). o.outcome) c.read-opened.ensures) c.from_residual.ensures.1

pub returns : goal.returns
unfolding in_place_read
returns c =
    let z = check-passes (in_place_code c.args.snapshot.now) (sym c.in_ok-opened.was ∙ ap (λ (o : Opened). o.outcome) c.read-opened.ensures) in
    rw z (ap (λ (o : Opened). Ok o.state) (rw z at c.read-opened.ensures))
