pub mod StepLaws
pub mod WindowLaws
pub mod CallLaws
pub mod Maxima
pub mod Computed
