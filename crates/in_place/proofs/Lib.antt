pub mod Codes
pub mod InPlaceLaws
pub mod InPlaceSteps
pub mod InPlaceSwitch
pub mod Patches
