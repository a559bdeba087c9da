-- `bench_api::bench_batch_on` meets its contract.
use mathlib.Core.Path.{ap, ◌∙◌}
use Rattle.state.specs.Rejections.{outcome_code}
use Rattle.slices.proofs.Codes.{code-slice}
use Rattle.bench_api.specs.Snapshots.{batch_on_code}
use Rattle.bench_api.proofs.Opened.{number-of}
use Rattle.bench_api.proofs.bench_batch_on.Goals as goal

pub returns-clause-code : goal.returns-clause-code
unfolding batch_on_code
returns-clause-code c = c.code_of.ensures ∙ ap outcome_code c.batch_on.ensures.answer ∙ number-of _ _ (code-slice c.args.snapshot.now)
