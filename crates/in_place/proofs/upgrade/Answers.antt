-- `in_place::upgrade` meets its contract: an old snapshot is written as a new one, which has the length of the slice; a new one is as it is saved.
use mathlib.Core.Path.{◌≡◌, sym, ap, ◌∙◌}
use mathlib.Core.List.{List}
use Prim.Native.Nat.{ℕ}
use Rattle.state.specs.declared.State.{State}
use Rattle.state.proofs.Passing.{bounded}
use Rattle.state.proofs.Tests.{then-zero}
use Rattle.snapshot.specs.Snapshots.{decoded}
use Rattle.slices.specs.Slices.{in_place_code, state_value}
use Rattle.slices.proofs.SliceLaws.{one-snapshot}
use Rattle.snapshot.proofs.Decoded.{accepted-passes}
use Rattle.saving.specs.Encoding.{encoded}
use Rattle.saving.specs.Saving.{snapshot_written}
use Rattle.in_place.specs.InPlace.{room_code, rewrite_code}
use Rattle.in_place.proofs.Patches.{snapshot-written}
use Rattle.round_trips.proofs.RoundTrip.{whole}
use Rattle.in_place.proofs.InPlaceSteps.{state-value, rewrite-length}
use Rattle.in_place.proofs.upgrade.Goals as goal

-- the slice at entry is accepted, and has room
module _ (d : List ℕ) (z : rewrite_code d ≡ 0) where
  opens : (in_place_code d ≡ 0) × (room_code d ≡ 0)
  opens = then-zero (in_place_code d) (room_code d) z

  -- what was read is the state that it holds, and its snapshot fills the slice
  written : (s : State) → s ≡ state_value d → snapshot_written s d ≡ encoded (decoded d)
  written s e =
      ap (λ (x : State). snapshot_written x d) (e ∙ state-value d opens.0)
      ∙ snapshot-written (decoded d) d (bounded (decoded d) (accepted-passes d (one-snapshot d opens.0).0)).period (rewrite-length d opens.0 opens.1)

pub returns-then-not-scored : goal.returns-then-not-scored
returns-then-not-scored c = c.rewrite_snapshot.ensures ∙ written c.args.d.now c.requires.0 _ c.state_value.ensures

pub returns-else-not-scored : goal.returns-else-not-scored
returns-else-not-scored c =
    sym (whole c.args.d.now c.type_inv.d (opens c.args.d.now c.requires.0).0 (sym c.requires.1 ∙ c.if-not-scored.false))
