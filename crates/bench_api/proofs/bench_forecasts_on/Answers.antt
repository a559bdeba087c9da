-- `bench_api::bench_forecasts_on` meets its contract.
use Prim.Native.Nat.{ℕ}
use mathlib.Core.Path.{ap, ◌∙◌}
use Rattle.state.specs.Rejections.{outcome_code, ◌then◌}
use Rattle.state.proofs.Answers.{outcome-code}
use Rattle.snapshot.specs.Snapshots.{decoded}
use Rattle.slices.specs.Slices.{in_place_code}
use Rattle.slices.proofs.Codes.{code-slice}
use Rattle.forecasts.specs.Calendars.{forecasts_on}
use Rattle.forecasts.proofs.Codes.{code-forecasts-on}
use Rattle.bench_api.specs.Snapshots.{all_on_code}
use Rattle.bench_api.proofs.Opened.{number-of}
use Rattle.bench_api.proofs.bench_forecasts_on.Goals as goal

pub returns-clause-code : goal.returns-clause-code
unfolding all_on_code forecasts_on
returns-clause-code c =
    c.code_of.ensures ∙ ap outcome_code c.forecasts_on.ensures.answer ∙ number-of _ _ (code-slice c.args.snapshot.now)
    ∙ ap (λ (k : ℕ). in_place_code c.args.snapshot.now then k) (outcome-code _ (code-forecasts-on (decoded c.args.snapshot.now) _ c.args.horizon _))
