-- `bench_api::bench_forecasts` meets its contract.
use Prim.Native.Nat.{ℕ}
use mathlib.Core.Path.{ap, ◌∙◌}
use Rattle.state.specs.Rejections.{outcome_code, ◌then◌}
use Rattle.state.proofs.Answers.{outcome-code}
use Rattle.snapshot.specs.Snapshots.{decoded}
use Rattle.slices.specs.Slices.{in_place_code}
use Rattle.slices.proofs.Codes.{code-slice}
use Rattle.forecasts.specs.Forecasts.{forecasts_to}
use Rattle.forecasts.proofs.Codes.{code-forecasts}
use Rattle.bench_api.specs.Snapshots.{all_code}
use Rattle.bench_api.proofs.Opened.{number-of}
use Rattle.bench_api.proofs.bench_forecasts.Goals as goal

pub returns-clause-code : goal.returns-clause-code
unfolding all_code forecasts_to
returns-clause-code c =
    c.code_of.ensures ∙ ap outcome_code c.forecasts.ensures.answer ∙ number-of _ _ (code-slice c.args.snapshot.now)
    ∙ ap (λ (k : ℕ). in_place_code c.args.snapshot.now then k) (outcome-code _ (code-forecasts (decoded c.args.snapshot.now) 512 c.args.horizon _))
