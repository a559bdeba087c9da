-- `bench_api::bench_weight_groups` meets its contract.
use Prim.Native.Nat.{ℕ}
use mathlib.Core.Path.{ap, ◌∙◌}
use Rattle.state.specs.Rejections.{outcome_code, ◌then◌}
use Rattle.state.proofs.Answers.{outcome-code}
use Rattle.snapshot.specs.Snapshots.{decoded}
use Rattle.slices.specs.Slices.{in_place_code}
use Rattle.slices.proofs.Codes.{code-slice}
use Rattle.weights.specs.Groups.{weight_groups}
use Rattle.bench_api.specs.Snapshots.{in_place_groups_code}
use Rattle.bench_api.proofs.Opened.{number-of, code-groups}
use Rattle.bench_api.proofs.bench_weight_groups.Goals as goal

pub returns-clause-code : goal.returns-clause-code
unfolding in_place_groups_code weight_groups
returns-clause-code c =
    c.code_of.ensures ∙ ap outcome_code c.weight_groups.ensures.answer ∙ number-of _ _ (code-slice c.args.snapshot.now)
    ∙ ap (λ (k : ℕ). in_place_code c.args.snapshot.now then k) (outcome-code _ (code-groups (decoded c.args.snapshot.now) c.args.horizon _))
