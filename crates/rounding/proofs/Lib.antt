pub mod WrappedLaws
pub mod Shares
