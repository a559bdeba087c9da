pub mod SlotLaws
pub mod CheckpointLaws
