-- The switch in place: bit 6 of the model byte alone is set, and the slice is then the snapshot of the switched state.
use Prim.Native.Nat.{ℕ}
use mathlib.Core.Path.{◌≡◌, ap, ◌∙◌}
use mathlib.Core.List.{List}
use lib.ListN.{get_or, set}
use Rattle.models.specs.Models.{to_even}
use Rattle.models.proofs.ModelLaws.{model-again}
use Rattle.state.specs.States.{check}
use Rattle.state.specs.Switching.{switched}
use Rattle.state.specs.declared.State.{State}
use Rattle.state.proofs.Passing.{passed}
use Rattle.state.proofs.Switches.{checks-kept}
use Rattle.snapshot.specs.Snapshots.{decoded}
use Rattle.slices.specs.Slices.{in_place_code}
use Rattle.slices.proofs.SliceLaws.{one-snapshot}
use Rattle.snapshot.proofs.Decoded.{accepted-passes}
use Rattle.saving.specs.Encoding.{model_bytes, encoded}

-- a state that passes has a model byte that is put together again from its parts, and so has the switched one
switch-written : (s : State) → check s ≡ 0 → set (encoded s) 1 (to_even (get_or (encoded s) 1 0)) ≡ encoded (switched s)
unfolding encoded model_bytes
switch-written s ok =
    rw (model-again s.model (passed s ok).model, model-again (to_even s.model) (passed (switched s) (checks-kept s ∙ ok)).model)

module _ (d : List ℕ) (z : in_place_code d ≡ 0) where
  pub passes : check (decoded d) ≡ 0
  passes = accepted-passes d (one-snapshot d z).0

  pub switch-stored : (e : List ℕ) → e ≡ encoded (decoded d) → set e 1 (to_even (get_or e 1 0)) ≡ encoded (switched (decoded d))
  switch-stored e w = ap (λ (l : List ℕ). set l 1 (to_even (get_or l 1 0))) w ∙ switch-written (decoded d) passes
