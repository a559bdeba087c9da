-- `bench_api::bench_weight` meets its contract: a rejected call leaves the lent number as found.
use Prim.Native.Nat.{ℕ}
use mathlib.Core.Path.{◌≡◌, refl, sym, ap, ◌∙◌}
use Rattle.std.specs.Prelude.{Result, Ok, Err}
use Rattle.state.specs.Rejections.{code_in, ◌then◌}
use Rattle.state.specs.declared.Rejection.{Rejection}
use Rattle.snapshot.specs.Snapshots.{decoded}
use Rattle.slices.specs.Slices.{in_place_code}
use Rattle.slices.proofs.Codes.{code-slice}
use Rattle.weights.specs.Weights.{weight, weight_code, weight_value}
use Rattle.bench_api.specs.Snapshots.{in_place_weight_code, in_place_weight}
use Rattle.bench_api.proofs.Opened.{number-of, accepted, kept}
use Rattle.bench_api.proofs.bench_weight.Goals as goal

-- the number of each case
same : (a : Result ℕ Rejection) → code_in a ≡ weight_code a
same (Ok v) = refl
same (Err r) = refl

pub returns-in-Ok-clause-code : goal.returns-in-Ok-clause-code
unfolding in_place_weight_code
returns-in-Ok-clause-code c = let a = accepted (in_place_code c.args.snapshot.now) (weight (decoded c.args.snapshot.now) c.args.horizon) (sym c.in-Ok.is ∙ c.weight.ensures) in rw (a.0, a.1)

pub returns-in-Ok-clause-number : goal.returns-in-Ok-clause-number
unfolding in_place_weight
returns-in-Ok-clause-number c = let a = accepted (in_place_code c.args.snapshot.now) (weight (decoded c.args.snapshot.now) c.args.horizon) (sym c.in-Ok.is ∙ c.weight.ensures) in rw (a.0, a.1)

pub returns-in-Err-clause-code : goal.returns-in-Err-clause-code
unfolding in_place_weight_code
returns-in-Err-clause-code c =
    c.number.ensures ∙ ap code_in (sym c.in-Err.is ∙ c.weight.ensures) ∙ number-of _ _ (code-slice c.args.snapshot.now)
    ∙ ap (λ (k : ℕ). in_place_code c.args.snapshot.now then k) (same _)

pub returns-in-Err-clause-number : goal.returns-in-Err-clause-number
unfolding in_place_weight
returns-in-Err-clause-number c = kept (in_place_code c.args.snapshot.now) (weight (decoded c.args.snapshot.now) c.args.horizon) (λ a. weight_value a c.args.value.now) c.args.value.now (λ e. refl) (sym c.in-Err.is ∙ c.weight.ensures)
