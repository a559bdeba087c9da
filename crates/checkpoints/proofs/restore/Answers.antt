-- `checkpoints::restore` meets its contract.
use Prim.Native.Nat.{◌+◌, ◌-◌}
use mathlib.Core.Path.{◌≡◌, sym, ap, ◌∙◌}
use native.Mathlib.Omega.{arith}
use Rattle.snapshot.specs.Snapshots.{read}
use Rattle.checkpoints.specs.Checkpoints.{slot_size, slot_in}
use Rattle.checkpoints.proofs.CheckpointLaws.{none_above, none-short, found, found_none}
use Rattle.checkpoints.proofs.restore.Goals as goal
use Rattle.checkpoints.proofs.restore.Goals.{After-read-found}

pub returns-then-slot-ge-SLOTS : goal.returns-then-slot-ge-SLOTS
returns-then-slot-ge-SLOTS c = c.nothing_kept.ensures ∙ sym (none_above _ _ c.if-slot-ge-SLOTS.true)

pub returns-then-checkpoints-lt-CHECKPOINTS_SIZE : goal.returns-then-checkpoints-lt-CHECKPOINTS_SIZE
returns-then-checkpoints-lt-CHECKPOINTS_SIZE c = c.nothing_kept-then-checkpoints-lt-CHECKPOINTS_SIZE.ensures ∙ sym (none-short _ _ c.if-slot-ge-SLOTS.false c.if-checkpoints-lt-CHECKPOINTS_SIZE.true)

-- the part that was read is the slot
read_is : (c : After-read-found) → c.read-found.result ≡ read (slot_in c.args.checkpoints.now c.args.slot)
read_is c =
    let at = c.slot_at-from.result in
    let n : at + slot_size - at ≡ slot_size = omega arith in
    c.read-found.ensures ∙ ap read (rw (n, c.slot_at-from.ensures))

pub returns-then-is_ok : goal.returns-then-is_ok
returns-then-is_ok c =
    found _ _ c.if-slot-ge-SLOTS.false c.if-checkpoints-lt-CHECKPOINTS_SIZE.false c.read-found.result (read_is (goal.at.returns-then-is_ok c).After-read-found) (sym c.is_ok.ensures.value ∙ c.if-is_ok.true)

pub returns-else-is_ok : goal.returns-else-is_ok
returns-else-is_ok c =
    c.nothing_kept-else-is_ok.ensures ∙ found_none _ _ c.if-slot-ge-SLOTS.false c.if-checkpoints-lt-CHECKPOINTS_SIZE.false c.read-found.result (read_is (goal.at.returns-else-is_ok c).After-read-found) (sym c.is_ok.ensures.value ∙ c.if-is_ok.false)
