-- `commands::performing::open` meets its contract.
use Rattle.commands.proofs.CommandLaws.{opened}
use Rattle.commands.specs.Commands.{settled, open_snapshot}
use Rattle.snapshot.proofs.ByteLaws.{rest}
use Rattle.actions.specs.Actions.{opening}
use lib.ListN.{length}
use native.Mathlib.Omega.{arith}
use Prim.Native.Nat.{◌+◌, ◌≤◌}
use mathlib.Core.Path.{◌≡◌, ap, ◌∙◌}
use Rattle.commands.proofs.performing.open.Goals as goal
use Rattle.commands.proofs.performing.open.Goals.{After-open_snapshot-found}

opens : (r : After-open_snapshot-found) → let a = r.args in let o = r.open_snapshot-found.result in
    (a.x.at + o.size ≤ length a.s.now) × (settled a.x.at a.x.active (a.x.at + o.size) (a.x.at + o.size) o.action ≡ open_snapshot a.s.now a.x)
opens r =
    let a = r.args in
    opened _ _ _ r.requires (r.open_snapshot-found.ensures ∙ ap (opening a.x.state) (rest a.s.now a.x.at))

pub overflow_add-next : goal.overflow_add-next
overflow_add-next c = omega (arith, (opens (goal.at.overflow_add-next c).After-open_snapshot-found).0)

pub returns : goal.returns
returns c = c.settle.ensures ∙ (opens (goal.at.returns c).After-open_snapshot-found).1
