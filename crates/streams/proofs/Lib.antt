pub mod ByteLaws
pub mod StreamLaws
pub mod SessionLaws
pub mod CheckpointLaws
