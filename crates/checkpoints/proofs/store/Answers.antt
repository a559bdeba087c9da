-- `checkpoints::store` meets its contract: 21 and 12 come after the state's own, and `save` has the room of a slot.
use Rattle.state.specs.Rejections.{rejection_of}
use Rattle.checkpoints.proofs.CheckpointLaws.{no_slot, no_room, refused, put-part}
use Rattle.checkpoints.proofs.store.Goals as goal

pub returns-then-slot-ge-SLOTS : goal.returns-then-slot-ge-SLOTS
unfolding rejection_of
returns-then-slot-ge-SLOTS c =
    let a = c.args in
    let w = refused a.s a.slot a.checkpoints.now 20 (no_slot a.s a.slot a.checkpoints.now c.if-slot-ge-SLOTS.true) c.check.ensures c.and.ensures in
    record { answer = w.0; bytes = w.1 }

pub returns-then-checkpoints-lt-CHECKPOINTS_SIZE : goal.returns-then-checkpoints-lt-CHECKPOINTS_SIZE
unfolding rejection_of
returns-then-checkpoints-lt-CHECKPOINTS_SIZE c =
    let a = c.args in
    let w = refused a.s a.slot a.checkpoints.now 11 (no_room a.s a.slot a.checkpoints.now c.if-slot-ge-SLOTS.false c.if-checkpoints-lt-CHECKPOINTS_SIZE.true) c.check-then-checkpoints-lt-CHECKPOINTS_SIZE.ensures c.and-then-checkpoints-lt-CHECKPOINTS_SIZE.ensures in
    record { answer = w.0; bytes = w.1 }

pub returns : goal.returns
returns c =
    let f = c.save in
    let a = c.args in
    let w = put-part a.s a.slot a.checkpoints.now c.if-slot-ge-SLOTS.false c.if-checkpoints-lt-CHECKPOINTS_SIZE.false c.slot_at-at.result f.result f.new.buffer c.slot_at-at.ensures f.ensures.answer f.ensures.bytes in
    record { answer = w.0; bytes = w.1 }
