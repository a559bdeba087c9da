-- `in_place::move_on` meets its contract.
use Prim.Native.Nat.{ℕ, ◌+◌}
use mathlib.Core.Path.{ap, ◌∙◌}
use mathlib.Core.Bool.{true}
use native.Mathlib.Omega.{arith}
use Rattle.calendars.specs.Turns.{next_index}
use Rattle.layout.specs.CommandTable.{position_length}
use Rattle.layout.specs.Layout.{position_at}
use Rattle.saving.specs.Encoding.{position_bytes}
use Rattle.saving.specs.Saving.{written}
use Rattle.saving.proofs.Lengths.{length-position, written-room}
use Rattle.in_place.proofs.move_on.Goals as goal

pub returns : goal.returns
returns c =
    let w = c in
    let i = w in
    let a = i.args in
    w.rewrite_position.ensures
    ∙ ap (λ (p : ℕ). written a.d.now (position_at true a.m) (position_bytes p (a.count + 1))) i.next_index.ensures
    ∙ written-room a.d.now (position_at true a.m) (position_bytes (next_index a.m a.p) (a.count + 1)) position_length (length-position (next_index a.m a.p) (a.count + 1)) (omega arith)
